pub mod Earlier
pub mod Entries
pub mod Deeds
pub mod Keys
pub mod EntryLaws
pub mod Known
pub mod Amended
