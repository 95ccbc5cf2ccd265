pub mod FileState
pub mod Reads
