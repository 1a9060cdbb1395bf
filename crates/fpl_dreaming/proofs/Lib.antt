mod AskedLemmas
mod FirstPlayers
mod LineLists
mod RowLists
