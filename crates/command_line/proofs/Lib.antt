pub mod LineLemmas
pub mod MemberLemmas
pub mod NumberLemmas
pub mod OptionLemmas
pub mod OrderLemmas
