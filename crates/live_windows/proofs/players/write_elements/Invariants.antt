use Rattle.std.proofs.Common.{◌≡◌, ◌++◌, drop}
use Rattle.json_members.specs.Tokens.{tokens_of}
use Rattle.json_members.proofs.ListLemmas.{rest_of}
use Rattle.season_book.specs.Windows.{listed}
use Rattle.live_windows.specs.Gathered.{own_row}
use Rattle.live_windows.proofs.players.write_elements.Given as goal

-- the tokens so far, and then those of what is left, are those of all
abbrev pub invariant-loop-place : goal.invariant-loop-place
invariant-loop-place g l = record {
  tokens : l.out.tokens ++ rest_of (own_row l.seen.facts.profile l.lines l.team) (drop l.place l.seen.facts.players) ≡ l.fn.out.tokens ++ tokens_of (listed (own_row l.seen.facts.profile l.lines l.team) l.seen.facts.players);
  before : l.out.before ≡ l.fn.out.before;
}
