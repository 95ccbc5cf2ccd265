pub mod Rooms
pub mod Phases
pub mod Acting
pub mod Sending
pub mod Scattered
