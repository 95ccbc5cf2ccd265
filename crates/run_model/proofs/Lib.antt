pub mod Going
pub mod Untouched
pub mod Counted
