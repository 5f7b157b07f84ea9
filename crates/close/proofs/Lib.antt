-- From the steps of a close to the rules' close, and what follows from its contract.
pub mod Applied
pub mod Closed
pub mod Settled
