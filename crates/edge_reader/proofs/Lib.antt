pub mod LineMeaning
pub mod ReadLines
pub mod Pieces
