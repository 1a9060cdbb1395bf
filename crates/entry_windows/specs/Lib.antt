pub mod Courses
pub mod EntryLaws
pub mod Races
pub mod Told
pub mod EntrySummary
pub mod EntryLeagues
pub mod EntryTokens
