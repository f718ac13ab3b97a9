pub mod Gathering
pub mod Bounds
pub mod Means
pub mod Groups
pub mod Windows
pub mod Listed
pub mod Spreads
