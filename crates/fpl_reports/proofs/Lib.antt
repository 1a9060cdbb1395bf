pub mod DeadlineFacts
pub mod FieldFacts
pub mod FolderFacts
pub mod FolderOnce
pub mod ReadOnce
pub mod ReportFacts
pub mod RowLists
