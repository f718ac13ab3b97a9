pub mod Pieces
pub mod Forms
