pub mod Entries
pub mod Demands
