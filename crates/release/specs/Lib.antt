pub mod Listing
pub mod Spacing
pub mod Insertion
