pub mod Restored
pub mod Restoring
pub mod LastCommands
pub mod Kinds
pub mod CupRows
pub mod LeagueRestoring
pub mod Books
