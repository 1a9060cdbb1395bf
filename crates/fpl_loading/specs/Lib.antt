pub mod Faults
pub mod Files
pub mod Loading
pub mod More
pub mod Notes
pub mod Standing
