pub mod Looks
pub mod Proposals
