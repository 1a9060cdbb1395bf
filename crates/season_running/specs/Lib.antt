pub mod Accepting
pub mod Changed
pub mod EntryLaws
pub mod Standing
pub mod Kept
