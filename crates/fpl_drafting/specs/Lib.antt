pub mod Rows
pub mod Texts
pub mod Totals
pub mod Drafting
pub mod Steps
