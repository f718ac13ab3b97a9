pub mod Laws
pub mod Magnitudes
