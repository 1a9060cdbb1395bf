pub mod RowLemmas
pub mod PlayingLemmas
pub mod SendingLemmas
