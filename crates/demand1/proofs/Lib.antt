pub mod Numbering
pub mod RowLaws
pub mod Sound
pub mod WhenLaws
pub mod WholeLaws
pub mod Rows
pub mod Demand1
