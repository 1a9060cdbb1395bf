-- How many counted reads the window of an entry's transfers makes at most.
use Rattle.std.specs.Prelude.{ℕ, List, count_by}
use Rattle.std.specs.Option.{option_map_or}
use Rattle.rule_book.specs.Entries.{entry_in}
use Rattle.rule_book.specs.HistoryTransfers.{is_swap}
use Rattle.season_book.specs.Book.{EntryFacts}

-- each transfer that the entry made
abbrev pub transfers_window_reads : List EntryFacts → ℕ → ℕ
transfers_window_reads entries e = option_map_or (λ entry. count_by (λ event. is_swap event.deed) entry.history) (entry_in entries e) 0
