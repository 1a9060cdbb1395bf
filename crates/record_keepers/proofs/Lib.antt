pub mod TreeLemmas
pub mod Filing
