pub mod Telling
pub mod Calls
pub mod Causes
pub mod Printing
pub mod Epochs
pub mod Standing
pub mod Stops
pub mod Runs
