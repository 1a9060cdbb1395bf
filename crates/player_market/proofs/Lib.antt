pub mod PlaceLemmas
pub mod PriceRefusalLemmas
pub mod RowLemmas
pub mod JudgeLemmas
pub mod TradeLemmas
pub mod BatchLaws
pub mod TransferRefusalLemmas
