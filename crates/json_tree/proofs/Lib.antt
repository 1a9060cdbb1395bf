pub mod NodeLemmas
pub mod NumberLemmas
pub mod TextLemmas
pub mod TokenLemmas
pub mod WalkLemmas
