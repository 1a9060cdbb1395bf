pub mod RowTokens
pub mod Openings
pub mod Standings
