pub mod Judged
pub mod Fields
pub mod Magnitudes
pub mod Sound
pub mod Filling
pub mod Outcome
pub mod Rule
pub mod Sums
