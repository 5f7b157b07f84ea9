pub mod Formed
pub mod Records
