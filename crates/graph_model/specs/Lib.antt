pub mod EdgeText
pub mod Programs
pub mod Rounds
pub mod Answer
pub mod Partitions
pub mod Jobs
