use Rattle.std.proofs.Common.{◌≡◌, ◌++◌, drop}
use Rattle.json_members.specs.Tokens.{tokens_of}
use Rattle.json_members.proofs.ListLemmas.{rest_of}
use Rattle.season_book.specs.Windows.{leagues_window, league_row, numbered}
use Rattle.season_windows.proofs.windows.write_leagues.Given as goal

-- the tokens so far, and then those of what is left, are those of all
abbrev pub invariant-loop-place : goal.invariant-loop-place
invariant-loop-place g l = record {
  tokens : l.out.tokens ++ rest_of league_row (drop l.place (numbered l.seen.leagues)) ≡ l.fn.out.tokens ++ tokens_of (leagues_window l.seen.leagues);
  before : l.out.before ≡ l.fn.out.before;
}
