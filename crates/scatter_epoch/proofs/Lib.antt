pub mod Pairs
pub mod Walks
pub mod Workers
pub mod Assembling
pub mod Sending
