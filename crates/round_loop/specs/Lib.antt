pub mod Starts
pub mod Opening
pub mod Kept
pub mod Keeping
pub mod Answers
pub mod Conditions
pub mod Run
pub mod Coming
