pub mod Put
pub mod PutLaws
pub mod Eight
pub mod EightLaws
