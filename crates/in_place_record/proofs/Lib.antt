pub mod Told
pub mod Shown
pub mod EachRow
pub mod Laws
pub mod Cleared
pub mod Spelled
