pub mod Same
pub mod Further
pub mod Rows
pub mod Vectors
pub mod Captures
