pub mod Edges
pub mod Marks
pub mod Rmat
pub mod Words
