-- The laws that the proofs of the functions share, and that a close rests on.
pub mod Releases
pub mod Order
pub mod Settled
