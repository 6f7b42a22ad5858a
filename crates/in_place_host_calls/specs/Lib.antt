pub mod SetupLaws
pub mod GprsLaws
pub mod InterruptsLaws
