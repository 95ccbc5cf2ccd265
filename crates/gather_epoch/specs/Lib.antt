pub mod Crews
pub mod Gathering
pub mod Desks
pub mod Dealing
