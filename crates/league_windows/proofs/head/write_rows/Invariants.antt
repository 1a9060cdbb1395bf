use Rattle.std.proofs.Common.{◌≡◌, ◌++◌, drop}
use Rattle.json_members.specs.Tokens.{tokens_of}
use Rattle.json_members.proofs.ListLemmas.{rest_of}
use Rattle.season_book.specs.Windows.{listed, numbered}
use Rattle.season_views.specs.Seen.{OfEachSeen}
use Rattle.season_book.specs.HeadStandings.{head_standing}
use Rattle.league_windows.proofs.head.write_rows.Given as goal

-- the tokens so far, and then those of what is left, are those of all
abbrev pub invariant-loop-place : goal.invariant-loop-place
invariant-loop-place g l = record {
  tokens : OfEachSeen l.seen (λ entries. l.out.tokens ++ rest_of (head_standing l.seen.facts entries l.id l.league) (drop l.place (numbered l.table)) ≡ l.fn.out.tokens ++ tokens_of (listed (head_standing l.seen.facts entries l.id l.league) (numbered l.table)));
  before : OfEachSeen l.seen (λ entries. l.out.before ≡ l.fn.out.before);
}
