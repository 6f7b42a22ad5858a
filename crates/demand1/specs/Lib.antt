pub mod Rows
pub mod Leaves
pub mod Whole
pub mod When
pub mod Demand1
