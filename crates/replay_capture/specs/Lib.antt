pub mod Feeds
pub mod Laws
pub mod Pieces
