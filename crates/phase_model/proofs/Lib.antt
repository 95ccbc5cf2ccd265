pub mod Sent
pub mod Counted
pub mod Lists
mod WorkedExamples
