pub mod Decoding
pub mod Sets
pub mod Taken
