pub mod ColumnLemmas
pub mod FirstAbove
pub mod HandedIn
pub mod Maps
pub mod MarkLemmas
pub mod Repeats
pub mod SheetEntries
pub mod TableLemmas
