pub mod Record
pub mod Figures
pub mod Answers
