pub mod Opening
pub mod Splitting
pub mod Joining
pub mod Ending
pub mod Few
pub mod Made
pub mod Keeping
pub mod Worked
