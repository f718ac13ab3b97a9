pub mod Moved
pub mod Judging
