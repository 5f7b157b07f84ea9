pub mod Common
pub mod Raw
pub mod Positions
