-- What the rows of a host tell of each slot, as its book's records tell it.
use Rattle.std.specs.Prelude.{ℕ, [], Option}
use Rattle.std.specs.Option.{option_map, option_and_then}
use Rattle.rule_book.specs.Entries.{entry_in}
use Rattle.rule_book.specs.EntryRecords.{sales_in}
use Rattle.season_ledger.specs.Rows.{first_in, row_at}
use Rattle.manager_book.specs.declared.manager.Manager.{Manager}
use Rattle.season_book.specs.Book.{Book}
use Rattle.season_records.specs.declared.item.Item.{Item}
use Rattle.season_records.specs.declared.item.Item.TheVariants as item
use Rattle.season_records.specs.declared.slot.Slot.{Slot}
use Rattle.season_records.specs.declared.slot.Slot.TheVariants as slot
use Rattle.season_records.specs.Records.{team_item, told, transfer_item}
use Rattle.season_running.specs.Standing.{HostRows}

-- Of an entry.

-- its first gameweek is that of its first row
abbrev pub manager_item : ℕ → Manager → Item
manager_item e manager = item.Entry e (first_in manager.season) manager.key manager.name

-- the team of a gameweek, where that has a row
abbrev pub team_by : ℕ → ℕ → Manager → Option Item
team_by e g manager = option_map (λ standing. team_item e g standing.team) (row_at manager.season g)

-- a transfer of a gameweek: the first is 1
abbrev pub transfer_by : ℕ → ℕ → ℕ → Manager → Option Item
transfer_by e g n manager = option_map (transfer_item e g n) (entry_in (sales_in manager.sales g) n)

-- Of all else.

-- a book with what rows have besides the entries
abbrev pub book_without_entries : HostRows → Book
book_without_entries rows = record { facts = rows.facts; entries = []; leagues = rows.leagues; cups = rows.cups; lasts = rows.lasts }

-- what rows tell of a slot
abbrev pub told_by : HostRows → Slot → Option Item
told_by rows (slot.Entry e) = option_map (manager_item e) (entry_in rows.managers e)
told_by rows (slot.Team e g) = option_and_then (team_by e g) (entry_in rows.managers e)
told_by rows (slot.Transfer e g n) = option_and_then (transfer_by e g n) (entry_in rows.managers e)
told_by rows s = told (book_without_entries rows) s
