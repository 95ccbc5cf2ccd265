pub mod Written
pub mod Sent
pub mod Sends
pub mod Marked
pub mod Flushing
pub mod GoingOn
pub mod Emptying
