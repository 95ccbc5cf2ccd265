pub mod Giving
pub mod MadeLines
pub mod NumberFields
pub mod WellFormedLines
pub mod WorkedExamples
