-- Laws that the proofs of the functions share.
pub mod Putting
pub mod Decimal
pub mod Jobs
pub mod Printed
pub mod Settled
pub mod Classes
