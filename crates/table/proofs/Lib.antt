-- What is known of a table by value.
pub mod Facts
pub mod Rules
pub mod Settled
