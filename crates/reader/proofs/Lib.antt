-- Laws of the readers.
pub mod Counts
pub mod Places
pub mod Parts
pub mod Listing
pub mod Lists
pub mod Within
pub mod Rooms
pub mod Given
pub mod Settled
pub mod Cases
