pub mod Chunks
pub mod Causes
pub mod Places
pub mod Inside
pub mod Scans
