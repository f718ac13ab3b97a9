pub mod Within
pub mod Table
