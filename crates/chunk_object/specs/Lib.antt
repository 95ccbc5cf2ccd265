pub mod Object
pub mod History
pub mod Epochs
pub mod Duty
