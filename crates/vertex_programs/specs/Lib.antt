pub mod LeastLaws
pub mod TotalLaws
