-- How many counted reads the window of a cup makes at most.
use Rattle.std.specs.Prelude.{ℕ, ◌*◌, List}
use Rattle.std.specs.Option.{option_map_or}
use Rattle.rule_book.specs.declared.cup.Bracket.{Bracket}
use Rattle.rule_book.specs.Entries.{entry_in}
use Rattle.season_book.specs.Book.{EntryFacts, Facts}
use Rattle.season_book.specs.LeagueViews.{cup_shown}
use Rattle.season_views.specs.Ties.{ties_of}

-- each tie of a locked round once, and the gameweek of each of its two entries
abbrev pub cup_window_reads : Facts → List EntryFacts → List Bracket → ℕ → ℕ
cup_window_reads facts entries cups c = option_map_or (λ b. 3 * ties_of (cup_shown facts entries b).rounds) (entry_in cups c) 0
