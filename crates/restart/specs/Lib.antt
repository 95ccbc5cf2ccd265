pub mod Dropping
pub mod Recovering
pub mod Storable
pub mod Resuming
