pub mod HalfDegree
pub mod Table
pub mod Pair
pub mod Rank
pub mod Answers
