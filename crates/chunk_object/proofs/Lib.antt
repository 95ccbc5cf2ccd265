pub mod Histories
pub mod Pushes
pub mod Legal
pub mod Moves
pub mod Whole
pub mod Covered
pub mod Order
pub mod Rows
mod WorkedExamples
pub mod Dutiful
