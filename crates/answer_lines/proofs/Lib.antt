pub mod Written
pub mod LineLemmas
pub mod Printed
pub mod Answered
