pub mod Laws
pub mod Rows
pub mod Scores
pub mod Sheets
