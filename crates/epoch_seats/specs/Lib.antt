pub mod Between
pub mod Seats
pub mod Made
pub mod Joining
pub mod Opening
