pub mod Places
pub mod Onward
pub mod SameRounds
pub mod Left
pub mod Starting
pub mod Answering
pub mod Stores
pub mod Beginning
