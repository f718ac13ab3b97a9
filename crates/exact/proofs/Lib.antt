pub mod Rounding
pub mod Answers
pub mod Words
pub mod Gathering
mod Columns
mod Digits
mod Scaling
