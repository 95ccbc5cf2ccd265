pub mod Adding
pub mod Partition
pub mod Steps
pub mod Reading
pub mod Serving
pub mod Beginning
pub mod Homes
