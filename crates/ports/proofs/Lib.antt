pub mod Going
pub mod InTurn
pub mod Parts
pub mod Rising
pub mod Stops
pub mod Streams
pub mod Told
pub mod Untold
