pub mod Judged
pub mod Laws
pub mod Beside
pub mod Trips
