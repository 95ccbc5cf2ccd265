pub mod Pieces
pub mod Homes
pub mod Heads
pub mod Lists
pub mod Faulty
pub mod Scanning
