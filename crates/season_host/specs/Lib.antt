pub mod Cells
pub mod Accepted
