pub mod Emptying
pub mod Sets
pub mod Sends
pub mod Counts
pub mod Steps
