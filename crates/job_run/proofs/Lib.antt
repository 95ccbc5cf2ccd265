pub mod Meters
pub mod Runs
