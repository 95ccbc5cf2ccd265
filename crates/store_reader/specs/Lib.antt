pub mod Devices
pub mod Reading
pub mod Serving
pub mod Indexed
pub mod Values
