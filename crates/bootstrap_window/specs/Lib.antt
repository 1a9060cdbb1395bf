pub mod EventRows
pub mod Parts
pub mod Tables
pub mod Told
