pub mod Ranges
pub mod Formulas
pub mod Answers
