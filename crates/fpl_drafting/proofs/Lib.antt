pub mod Elevens
pub mod RowLemmas
pub mod TotalLemmas
pub mod StepLemmas
pub mod TellLemmas
