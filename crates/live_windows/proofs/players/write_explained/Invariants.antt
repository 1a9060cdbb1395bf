use Rattle.std.proofs.Common.{◌≡◌, ◌++◌, drop}
use Rattle.json_members.specs.Tokens.{tokens_of}
use Rattle.json_members.proofs.ListLemmas.{rest_of}
use Rattle.season_book.specs.Windows.{listed}
use Rattle.live_windows.specs.Gathered.{own_explained}
use Rattle.live_windows.proofs.players.write_explained.Given as goal

-- the tokens so far, and then those of what is left, are those of all
abbrev pub invariant-loop-line : goal.invariant-loop-line
invariant-loop-line l = record {
  tokens : l.out.tokens ++ rest_of (own_explained l.profile l.position) (drop l.line-index l.own) ≡ l.fn.out.tokens ++ tokens_of (listed (own_explained l.profile l.position) l.own);
  before : l.out.before ≡ l.fn.out.before;
}
