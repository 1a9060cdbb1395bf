pub mod AddingLemmas
pub mod FileLemmas
pub mod LoadingLemmas
pub mod RowLemmas
