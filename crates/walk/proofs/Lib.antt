-- Laws of the walk.
pub mod Bounds
pub mod Past
pub mod Settled
