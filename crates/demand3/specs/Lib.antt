pub mod Third
pub mod Kinds
pub mod Counting
pub mod Shown
pub mod Witness
