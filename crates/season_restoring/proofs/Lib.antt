mod Fitting
mod Locks
mod Room
mod Rows
mod Slots
mod Sound
mod Steps
mod FactsTold
mod FactsWhole
mod Through
mod NumberedKeys
mod Numbers
mod EntriesTold
mod OneEntry
mod Issued
mod EntriesWhole
mod Adding
pub mod KeptRows
pub mod LawfulRows
pub mod LastRows
pub mod CommandsRead
pub mod LastPut
pub mod LastLoop
pub mod Gapless
pub mod Numbering
pub mod CupLemmas
pub mod LeagueNumbers
pub mod MemberRows
pub mod OneLeague
pub mod AllLeagues
pub mod BookLemmas
