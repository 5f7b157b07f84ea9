-- What follows of lists as words.
pub mod Places
pub mod Cut
pub mod Putting
pub mod Steps
pub mod Trips
pub mod Cases
pub mod Settled
