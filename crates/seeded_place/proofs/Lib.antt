pub mod Engines
pub mod WorkedExamples
