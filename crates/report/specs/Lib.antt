pub mod Record
pub mod Judged
