pub mod Growing
pub mod SlotLemmas
pub mod SlotBytes
pub mod ValueBytes
pub mod WorkedExamples
pub mod DamageExamples
