pub mod Hex
pub mod Words
