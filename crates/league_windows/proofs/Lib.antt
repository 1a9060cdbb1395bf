mod ComersTold
mod LockedShown
mod MatchHeld
mod MatchesWritten
mod NetShown
mod NoNumber
mod RowsWritten
mod SalesCounted
mod SalesWritten
mod SidesWritten
mod TiesRead
mod TransfersDue
mod WindowShown
mod Added
mod AverageFacts
mod EntryNames
mod MatchesBefore
pub mod MemberPlaces
mod OpeningFacts
mod RanksBefore
mod RowMembers
mod ScoreParts
pub mod StandingsShown
mod StandingFacts
pub mod StandingsBefore
mod TableMembers
mod TotalsBefore
mod Widths
