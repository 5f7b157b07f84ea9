pub mod Words
pub mod Table
