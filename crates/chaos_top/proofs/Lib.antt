pub mod Outcomes
pub mod NoMemory
