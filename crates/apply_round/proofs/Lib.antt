pub mod Desks
pub mod Ends
pub mod Shares
pub mod Rounds
