pub mod Events
pub mod Sequences
pub mod Symmetric
pub mod Zero
pub mod Counting
pub mod Third
