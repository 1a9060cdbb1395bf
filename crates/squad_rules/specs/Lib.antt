pub mod Dreams
pub mod Elevens
pub mod Pools
