pub mod Fields
pub mod Once
pub mod RowLists
pub mod ScoreLists
