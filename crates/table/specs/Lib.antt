pub mod Table
pub mod Check
