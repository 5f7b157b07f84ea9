-- What the proofs of this crate share.
pub mod Lent
pub mod Folded
pub mod Rounds
pub mod Settled
pub mod Walking
