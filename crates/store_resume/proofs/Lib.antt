pub mod Starts
pub mod Refused
pub mod Resumed
