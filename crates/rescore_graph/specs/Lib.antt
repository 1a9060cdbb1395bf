pub mod Graph
pub mod States
pub mod Settling
pub mod Listed
pub mod Work
