pub mod Tables
pub mod Reading
pub mod Commands
pub mod Reader
pub mod Names
pub mod Rows
