pub mod Appeared
pub mod MatchRows
pub mod RowParts
pub mod Scores
pub mod Sides
