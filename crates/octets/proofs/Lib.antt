pub mod FirstToLast
pub mod Laws
pub mod Joined
