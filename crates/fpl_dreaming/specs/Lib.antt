pub mod Dreaming
pub mod Rows
pub mod Texts
