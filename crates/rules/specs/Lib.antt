-- Document 01 as definitions that compute, one file a section, in the order of the paper.
pub mod Answer
pub mod Table
pub mod Common
pub mod Judge
pub mod Insert
pub mod Close
pub mod Node
pub mod Numbers
pub mod Written
pub mod RoundTrips
pub mod Session
pub mod Sound
pub mod Cabinet
pub mod Agreement
pub mod All
pub mod Canal
