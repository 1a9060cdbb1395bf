pub mod Lists
pub mod MeanFacts
pub mod TotalFacts
pub mod LevelFacts
pub mod TieFacts
