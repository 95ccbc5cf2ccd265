pub mod Gates
pub mod Slots
pub mod Heads
pub mod Graphs
pub mod Kept
pub mod Damage
