pub mod Table
pub mod Turns
pub mod Runs
pub mod Alike
