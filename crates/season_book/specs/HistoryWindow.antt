-- The locked gameweeks of an entry: its chips, and its row of each.
use Rattle.std.specs.Prelude.{ℕ, List, Option, Some, None, filter, codes, is_some, if◌then◌else◌}
use Rattle.std.specs.Option.{option_and_then}
use Rattle.serde_json.specs.Data.{Data, member, no_members, object}
use Rattle.json_members.specs.Members.{count, no_list, text_or_null}
use Rattle.rule_book.specs.Entries.{entry_in}
use Rattle.rule_book.specs.History.{Event, chip_at}
use Rattle.rule_book.specs.HistoryRules.{first_gw, is_started}
use Rattle.rule_book.specs.Totals.{gameweeks}
use Rattle.season_book.specs.Book.{EntryFacts, Facts}
use Rattle.season_book.specs.Windows.{listed}
use Rattle.season_book.specs.ChipNames.{chip_name}
use Rattle.season_book.specs.EntryRows.{entry_row_data, entry_row_of}

-- the locked gameweeks of a history, from its first on
abbrev pub gameweeks_of : Facts → List Event → List ℕ
gameweeks_of facts h = gameweeks (first_gw h) facts.calendar.locked

-- those in which a chip was played
abbrev pub chips_of : Facts → List Event → List ℕ
chips_of facts h = filter (λ g. is_some (chip_name (chip_at h g))) (gameweeks_of facts h)

-- a gameweek with the name of its chip
abbrev pub played_row : ℕ → Option (List ℕ) → Data
played_row g name = object
    (member (codes "event") (count g)
    (member (codes "name") (text_or_null name)
    no_members))

abbrev pub chip_row : List Event → ℕ → Data
chip_row h g = played_row g (chip_name (chip_at h g))

abbrev pub history_data : Facts → List EntryFacts → ℕ × EntryFacts → Data
history_data facts entries row = object
    (member (codes "chips") (listed (chip_row row.1.history) (chips_of facts row.1.history))
    (member (codes "current") (listed (λ g. entry_row_data (entry_row_of facts entries row g)) (gameweeks_of facts row.1.history))
    (member (codes "past") no_list
    no_members)))

-- none where the entry was not issued or is not registered
abbrev pub history_window : Facts → List EntryFacts → ℕ → Option Data
history_window facts entries e =
    option_and_then (λ entry. if is_started entry.history then Some (history_data facts entries (e, entry)) else None) (entry_in entries e)
