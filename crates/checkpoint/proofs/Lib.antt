pub mod ByteLemmas
pub mod SlotSteps
pub mod ValueSteps
pub mod Partwise
pub mod WorkedExamples
