pub mod Metal
pub mod Prover
pub mod Places
pub mod Fractions
pub mod Liquid
pub mod Rounded
pub mod Answers
