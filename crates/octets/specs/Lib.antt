pub mod Octets
pub mod FirstToLast
pub mod Records
pub mod Lists
