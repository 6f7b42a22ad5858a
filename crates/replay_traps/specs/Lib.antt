pub mod InPlace
pub mod Laws
