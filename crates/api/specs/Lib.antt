pub mod Given
pub mod Flat
