-- What is known of the arrays and of the record by value.
pub mod Arrays
pub mod Summing
pub mod Records
pub mod Raw
pub mod Positions
pub mod Settled
