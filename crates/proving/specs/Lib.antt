pub mod Judging
pub mod Job
pub mod Answers
