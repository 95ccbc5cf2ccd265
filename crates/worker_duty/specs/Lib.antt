pub mod Slots
pub mod Shares
pub mod Views
pub mod Working
pub mod Acting
