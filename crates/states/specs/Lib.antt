pub mod Common
pub mod Node
