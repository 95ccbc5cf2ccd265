pub mod Finish
pub mod Running
