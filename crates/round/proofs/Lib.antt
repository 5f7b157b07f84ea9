-- Laws of the round record by value.
pub mod Same
pub mod Settled
