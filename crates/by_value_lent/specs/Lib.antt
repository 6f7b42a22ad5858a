pub mod Thin
pub mod One
