use Rattle.std.proofs.Common.{◌≡◌, ◌≤◌, ◌+◌, ◌++◌, drop, filter, take}
use Rattle.std.specs.List.{sum_by}
use Rattle.json_members.specs.Tokens.{tokens_of}
use Rattle.json_members.proofs.ListLemmas.{rest_of}
use Rattle.season_book.specs.Windows.{listed, my_leagues}
use Rattle.season_views.specs.Seen.{OfEachSeen}
use Rattle.entry_windows.specs.EntryLeagues.{is_of_kind, league_reads, league_told}
use Rattle.entry_windows.proofs.leagues.write_of_kind.Given as goal

-- the tokens so far, and then those of the leagues of the kind among what is left, are those of all
abbrev pub invariant-loop-id : goal.invariant-loop-id
invariant-loop-id g l = record {
  tokens : OfEachSeen l.seen
      (λ entries. l.out.tokens ++ rest_of (league_told l.kind l.seen.facts entries l.entry) (filter (λ row. is_of_kind l.kind row.1) (drop l.id-index (my_leagues l.seen.leagues l.entry)))
      ≡ l.fn.out.tokens ++ tokens_of (listed (league_told l.kind l.seen.facts entries l.entry) (filter (λ row. is_of_kind l.kind row.1) (my_leagues l.seen.leagues l.entry))));
  before : OfEachSeen l.seen (λ entries. l.out.before ≡ l.fn.out.before);
  cost : l.steps ≤ l.fn.steps + sum_by (λ row. league_reads l.kind l.entry row.1) (take l.id-index (my_leagues l.seen.leagues l.entry));
}
