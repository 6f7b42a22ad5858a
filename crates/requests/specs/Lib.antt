pub mod Kept
pub mod Hvip
pub mod Mode
pub mod SetTimer
pub mod Meaning
pub mod Compressed
pub mod Posts
pub mod Injection
