pub mod Mask
pub mod Shift
