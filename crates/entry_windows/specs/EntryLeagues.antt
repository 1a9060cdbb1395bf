-- The leagues of an entry, by their kind.
use Rattle.std.specs.Prelude.{ℕ, ◌&&◌, Bool, List, filter, not}
use Rattle.serde_json.specs.Data.{Data}
use Rattle.rule_book.specs.declared.league.LeagueKind.{LeagueKind}
use Rattle.rule_book.specs.declared.league.LeagueKind.TheVariants as kind
use Rattle.rule_book.specs.LeagueCalls.{is_head, is_member}
use Rattle.rule_book.specs.Leagues.{LeagueFacts}
use Rattle.season_book.specs.Book.{EntryFacts, Facts}
use Rattle.season_book.specs.EntryWindow.{classic_league_told, head_league_told}
use Rattle.season_book.specs.Windows.{numbered}
use Rattle.season_views.specs.EntryWindowReads.{classic_league_reads, head_league_reads}

abbrev pub is_of_kind : LeagueKind → LeagueFacts → Bool
is_of_kind kind.Classic league = not (is_head league.kind)
is_of_kind kind.Head league = is_head league.kind

-- those of a kind of which an entry is a member, each with its number
abbrev pub leagues_of_kind : LeagueKind → List LeagueFacts → ℕ → List (ℕ × LeagueFacts)
leagues_of_kind k leagues e = filter (λ row. is_of_kind k row.1 && is_member row.1 e) (numbered leagues)

-- what is told of one
abbrev pub league_told : LeagueKind → Facts → List EntryFacts → ℕ → ℕ × LeagueFacts → Data
league_told kind.Classic facts entries e row = classic_league_told facts entries e row
league_told kind.Head facts entries e row = head_league_told facts entries e row

-- and how many counted reads that takes
abbrev pub league_reads : LeagueKind → ℕ → LeagueFacts → ℕ
league_reads kind.Classic e league = classic_league_reads e league
league_reads kind.Head e league = head_league_reads e league
