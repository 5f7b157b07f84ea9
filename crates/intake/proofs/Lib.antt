-- Laws that the proofs of the functions share.
pub mod Tasks
pub mod Parts
pub mod Final
pub mod Settled
