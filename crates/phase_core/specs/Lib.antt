pub mod Machine
pub mod Runs
pub mod Sums
pub mod View
