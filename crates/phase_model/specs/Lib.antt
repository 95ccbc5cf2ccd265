pub mod Taken
pub mod Sends
pub mod Sums
pub mod Shelves
pub mod Lanes
pub mod JobTerms
