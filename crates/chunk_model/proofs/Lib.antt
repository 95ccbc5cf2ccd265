pub mod Waiting
pub mod Made
pub mod LayoutLaws
pub mod Counted
pub mod OnDevice
pub mod ManyChunks
mod WorkedExamples
