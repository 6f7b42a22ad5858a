pub mod View
pub mod Steps
pub mod Cleared
pub mod Rows
pub mod Spelled
pub mod Laws
