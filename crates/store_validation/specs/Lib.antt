pub mod EntryLaws
pub mod EntryRules
pub mod Lawful
pub mod LeagueRules
pub mod TeamRules
pub mod TransferRules
