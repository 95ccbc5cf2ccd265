pub mod Crews
pub mod Joining
pub mod Dealing
pub mod Desks
pub mod Sent
pub mod Scattering
