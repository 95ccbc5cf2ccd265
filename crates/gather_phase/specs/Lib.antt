pub mod Summing
pub mod Gathering
pub mod Rooms
pub mod Phases
pub mod Acting
pub mod Memory
pub mod Gathered
