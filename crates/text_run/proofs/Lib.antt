pub mod Causes
pub mod Untouched
pub mod Held
pub mod Prepared
pub mod Refused
pub mod Made
pub mod Finished
