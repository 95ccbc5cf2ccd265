pub mod SlotStates
pub mod Synced
pub mod Applied
pub mod Room
pub mod Storing
