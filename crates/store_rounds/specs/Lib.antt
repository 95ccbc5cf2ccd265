pub mod Images
pub mod Going
pub mod Making
pub mod Printed
