-- What rows hold of a history, positions aside.
use Rattle.std.proofs.Common.{◌≡◌, ◌+◌, ℕ, true, false, List, Option, Some, None}
use Rattle.rule_book.specs.History.{Event, chip_at, kept, is_touched}
use Rattle.rule_book.specs.HistorySquad.{armbands_of, spent, earned, holdings_of}
use Rattle.rule_book.specs.HistoryRules.{IsHistory}
use Rattle.rule_book.specs.HistoryTransfers.{swaps_in}
use Rattle.rule_book.specs.HistoryTeam.{holdings, is_begun}
use Rattle.season_ledger.specs.declared.row.Standing.{Standing}
use Rattle.season_ledger.specs.declared.row.Row.{Row}
use Rattle.season_ledger.specs.Rows.{row_at}

pub record IsHeld (h : List Event) (g : ℕ) (s : Standing) : Type 0 where
  pub squad : holdings s.team.picks ≡ holdings_of (kept h g)
  pub captain : s.team.captain ≡ (armbands_of (kept h g)).0
  pub vice : s.team.vice ≡ (armbands_of (kept h g)).1
  pub bank : s.team.bank + spent (kept h g) ≡ 1000 + earned (kept h g)
  pub chip : s.team.chip ≡ chip_at h g
  pub made : s.made ≡ swaps_in h g

abbrev pub Holds : List Event → ℕ → Option Standing → Type 0
Holds h g None = is_touched h g ≡ false
Holds h g (Some s) = (is_touched h g ≡ true) × IsHeld h g s

pub record RowsHold (rows : List Row) (h : List Event) : Type 0 where
  pub told : (g : ℕ) → Holds h g (row_at rows g)

pub record Stands (rows : List Row) (h : List Event) : Type 0 where
  pub history : IsHistory h
  pub held : RowsHold rows h

abbrev pub StandingHeld : List Event → ℕ → Option Standing → Type 0
StandingHeld h g None = is_begun h g ≡ false
StandingHeld h g (Some s) = (is_begun h g ≡ true) × IsHeld h g s
