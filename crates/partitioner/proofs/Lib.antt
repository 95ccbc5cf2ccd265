pub mod Ranges
pub mod Owned
pub mod Made
