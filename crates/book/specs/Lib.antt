pub mod Line
pub mod Figures
pub mod Rules
pub mod Sound
pub mod Calls
pub mod Demand3
