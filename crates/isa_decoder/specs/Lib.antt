pub mod Decode
pub mod Compressed
pub mod Length
pub mod Laws
pub mod Examples
pub mod Errors
pub mod Straight
pub mod CompressedLaws
