pub mod Exact
pub mod Rounding
pub mod Live
pub mod Word
pub mod Panel
pub mod Channels
