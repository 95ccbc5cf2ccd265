pub mod Summaries
pub mod Benches
