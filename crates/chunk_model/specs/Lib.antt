pub mod Chunks
pub mod Buffers
pub mod Layout
pub mod ChunkBytes
