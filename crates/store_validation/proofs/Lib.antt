pub mod EntriesJudged
pub mod Judged
pub mod Lawful
pub mod Listed
pub mod Numbered
pub mod Picks
