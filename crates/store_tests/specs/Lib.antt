pub mod Crews
pub mod Desks
pub mod Lanes
