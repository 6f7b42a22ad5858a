pub mod Extend
pub mod Extended
