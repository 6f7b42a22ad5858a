pub mod Fold
pub mod FoldLaws
pub mod RowLaws
