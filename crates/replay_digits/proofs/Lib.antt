pub mod WordLaws
pub mod Laws
