-- What the proofs of this crate share.
pub mod Own
pub mod Kept
pub mod Settled
