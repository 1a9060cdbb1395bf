pub mod Rows
pub mod Batches
pub mod Stands
