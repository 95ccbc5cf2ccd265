mod Reaching
mod Stopping
pub mod Keeping
pub mod Epochs
mod Advancing
mod Beginning
pub mod Ending
mod Counting
mod Steps
