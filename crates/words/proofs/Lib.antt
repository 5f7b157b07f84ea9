-- The laws that the proofs of the functions share, and what follows from the contracts.
pub mod Copies
pub mod Table
pub mod Settled
pub mod Cases
