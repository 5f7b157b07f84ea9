pub mod Answers
pub mod Same
pub mod Settled
