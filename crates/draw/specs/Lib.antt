pub mod Fill
pub mod Drawn
pub mod Passes
pub mod Profile
pub mod Base
pub mod Answers
pub mod Volumes
