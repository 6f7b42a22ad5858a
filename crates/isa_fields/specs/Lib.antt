pub mod Compressed
pub mod Fields
