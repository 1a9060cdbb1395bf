pub mod Levels
pub mod Ones
pub mod Counts
pub mod Standing
