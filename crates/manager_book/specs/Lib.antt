pub mod Managers
pub mod Calls
pub mod Deeds
pub mod Indexed
pub mod Kept
pub mod HistoryLaws
