pub mod Repeatability
pub mod Mean
pub mod Listed
pub mod Spread
