pub mod Repeats
pub mod FormationFacts
pub mod Copies
pub mod Legal
pub mod ChipsPlayed
mod Choosing
mod Collecting
mod Lined
mod Places
mod Putting
mod Ranking
mod Standing
mod Trying
mod Weekly
