pub mod Inside
pub mod Making
pub mod Preparing
pub mod Steps
pub mod Waiting
