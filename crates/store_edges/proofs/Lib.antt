pub mod Cursors
pub mod Stands
pub mod Begun
pub mod Standing
pub mod Found
pub mod Accepted
pub mod Few
pub mod Counted
