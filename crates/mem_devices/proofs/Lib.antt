pub mod Entering
pub mod Kept
pub mod Picking
pub mod Recording
