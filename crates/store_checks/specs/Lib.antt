pub mod Jobs
pub mod Causes
pub mod Rounds
pub mod Indexing
