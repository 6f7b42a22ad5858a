pub mod Left
pub mod First
pub mod Third
pub mod Places
pub mod Back
pub mod Demands
