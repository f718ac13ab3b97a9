pub mod Laws
pub mod Counted
