pub mod Agree
pub mod Bases
pub mod Stored
