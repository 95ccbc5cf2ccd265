pub mod Lanes
pub mod Outgoing
pub mod Sending
