-- What follows from the contracts of the passes, and how a chain gives what they say.
pub mod Chains
pub mod Settled
