pub mod Trial
pub mod Close
