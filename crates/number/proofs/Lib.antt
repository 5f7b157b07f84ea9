-- Laws that the proofs of the functions share, here and wherever numbers are read.
pub mod Groups
pub mod Sizes
pub mod Putting
pub mod Told
pub mod One
pub mod After
pub mod Listing
pub mod Settled
pub mod Cases
pub mod Trips
