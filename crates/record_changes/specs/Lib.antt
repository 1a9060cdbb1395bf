pub mod Laws
pub mod Ordered
pub mod RowsTold
pub mod Batches
