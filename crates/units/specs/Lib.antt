pub mod Pieces
pub mod Units
