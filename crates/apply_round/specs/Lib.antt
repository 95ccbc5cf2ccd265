pub mod Crew
pub mod Made
pub mod Applying
