pub mod Around
pub mod KeyLemmas
pub mod NumberLemmas
pub mod OneLetter
pub mod RowLemmas
pub mod TextLemmas
pub mod Written
