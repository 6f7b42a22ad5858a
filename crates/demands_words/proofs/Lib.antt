pub mod One
pub mod Back
pub mod Demands
pub mod First
pub mod Left
pub mod Places
pub mod Third
