pub mod Numbers
pub mod Accumulators
pub mod Lending
pub mod Appending
pub mod Merging
