pub mod FieldTests
pub mod GoodHeads
pub mod HeadChecks
pub mod SlotReads
pub mod Indexed
pub mod KeptRounds
