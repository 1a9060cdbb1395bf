pub mod AppendLemmas
pub mod ListLemmas
