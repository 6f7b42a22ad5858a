pub mod Bits
pub mod Values
pub mod BitLaws
