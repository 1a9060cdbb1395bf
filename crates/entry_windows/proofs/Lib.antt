mod Bench
mod Better
mod Compared
mod Counted
pub mod Due
mod Ended
pub mod HistoryShown
mod LawFacts
mod MultiplierFacts
pub mod Own
pub mod Places
mod Players
mod Ranges
mod ReadsWithin
pub mod Shown
mod Through
mod Appending
mod EventRanks
mod LeagueMembers
mod OwnLeagues
mod Summaries
mod Transfers
mod WindowShown
