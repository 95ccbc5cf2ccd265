pub mod Crews
pub mod Going
pub mod Standing
pub mod Epochs
pub mod Rounds
pub mod Updates
pub mod Damage
