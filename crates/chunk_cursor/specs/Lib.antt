pub mod View
pub mod Rule
pub mod Steps
pub mod Claims
pub mod Hold
pub mod Claiming
