pub mod Sorted
pub mod Elsewhere
pub mod Counts
pub mod Parts
pub mod Cursors
pub mod Shares
pub mod Duties
pub mod Beginnings
