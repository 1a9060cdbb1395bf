pub mod Instants
pub mod Kept
