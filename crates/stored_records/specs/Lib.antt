pub mod EntryTold
pub mod Kept
pub mod SeasonRules
pub mod Sequels
pub mod Stored
