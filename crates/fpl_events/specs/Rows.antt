-- The rows of a match by its events: which records spell them, and which may follow which.
use Rattle.std.specs.Prelude.{◌≡◌, ◌≤◌, ◌+◌, ◌-◌, ℕ, true, List, [], ◌∷◌, codes, fold, ⊤}
use Rattle.fpl_reports.specs.Rows.{HasRows, HasWrongRow}
use Rattle.match_events.specs.Events.{is_event}
use Rattle.fpl_events.specs.Words.{Begins, IsNumberAt, SpellsEvent}
use Rattle.fpl_events.specs.declared.row.EventRow.{EventRow}
use Rattle.fpl_events.specs.declared.row.EventRow.TheVariants as row
use Rattle.fpl_reports.specs.declared.rows.RowFault.{RowFault}
use Rattle.fpl_reports.specs.declared.rows.RowFault.TheVariants as fault

-- how many events stand behind a row, if as many stood before it: each insertion and each removal counts
abbrev pub events_after : ℕ → EventRow → ℕ
events_after count (row.Insert place event) = count + 1
events_after count (row.Remove place) = count - 1
events_after count row.Send = count

-- behind all of these rows, from none on
abbrev pub events_behind : List EventRow → ℕ
events_behind rows = fold events_after 0 rows

-- fields spell a row of a match of so many minutes, where so many events stand: `insert` with a place up to one behind the last
-- and an event, `remove` with a place of an event, or `send`
abbrev pub Spells : ℕ → ℕ → List (List ℕ) → EventRow → Type 0
Spells minutes count fields (row.Insert place event) =
    Begins fields (codes "insert") 7 × IsNumberAt fields 1 1 (count + 1) place × SpellsEvent fields event × (is_event minutes event ≡ true)
Spells minutes count fields (row.Remove place) = Begins fields (codes "remove") 2 × IsNumberAt fields 1 1 count place
Spells minutes count fields row.Send = Begins fields (codes "send") 1

-- fields spell a row that may follow these: its place is judged by how many events stand behind them
abbrev pub Adds : ℕ → List EventRow → List (List ℕ) → EventRow → Type 0
Adds minutes before fields row = Spells minutes (events_behind before) fields row

-- the bytes have these rows, and no other record; or this one, from 1, is the first that is no row
abbrev pub HasEventRows : ℕ → List ℕ → List EventRow → Type 0
HasEventRows minutes bytes rows = HasRows (Adds minutes) bytes rows

abbrev pub HasWrongEventRow : ℕ → List ℕ → ℕ → Type 0
HasWrongEventRow minutes bytes n = HasWrongRow (Adds minutes) bytes n

-- why there are no rows; want of memory needs no reason
abbrev pub ExplainsRows : ℕ → List ℕ → RowFault → Type 0
ExplainsRows minutes bytes (fault.Wrong n) = HasWrongEventRow minutes bytes n
ExplainsRows minutes bytes fault.Memory = ⊤

-- a row may be done where so many events stand
abbrev pub IsDoable : ℕ → ℕ → EventRow → Type 0
IsDoable minutes count (row.Insert place event) = (1 ≤ place) × (place ≤ count + 1) × (is_event minutes event ≡ true)
IsDoable minutes count (row.Remove place) = (1 ≤ place) × (place ≤ count)
IsDoable minutes count row.Send = ⊤

-- rows may be done one after another, from so many events on
abbrev pub AreDoable : ℕ → ℕ → List EventRow → Type 0
AreDoable minutes count [] = ⊤
AreDoable minutes count (row ∷ rows) = IsDoable minutes count row × AreDoable minutes (events_after count row) rows
