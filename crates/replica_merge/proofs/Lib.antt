pub mod NumberLemmas
pub mod AppendLemmas
pub mod PlaceLemmas
pub mod MergeSteps
pub mod Pairs
pub mod WorkedExamples
