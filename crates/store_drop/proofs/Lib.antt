pub mod GivenUp
