pub mod Desks
pub mod Moving
