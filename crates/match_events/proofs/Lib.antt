pub mod ChangeLemmas
pub mod ListLemmas
pub mod PlaceLemmas
pub mod WalkLemmas
