pub mod Traps
pub mod Csr
pub mod Sbi
