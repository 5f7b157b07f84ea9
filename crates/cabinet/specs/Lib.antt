pub mod Replies
pub mod Looks
pub mod Fresh
pub mod Nodes
pub mod Stations
pub mod Records
