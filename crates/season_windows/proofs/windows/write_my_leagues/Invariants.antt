use Rattle.std.proofs.Common.{◌≡◌, ◌++◌, drop}
use Rattle.std.specs.Prelude.{filter}
use Rattle.json_members.specs.Tokens.{tokens_of}
use Rattle.json_members.proofs.ListLemmas.{rest_of}
use Rattle.rule_book.specs.LeagueCalls.{is_member}
use Rattle.season_book.specs.Book.{caller_number}
use Rattle.season_book.specs.Windows.{my_league_row, my_leagues_window, numbered}
use Rattle.season_windows.proofs.windows.write_my_leagues.Given as goal

-- the tokens so far, and then those of the caller's leagues among what is left, are those of all
abbrev pub invariant-loop-place : goal.invariant-loop-place
invariant-loop-place g l = record {
  tokens : l.out.tokens ++ rest_of my_league_row (filter (λ row. is_member row.1 (caller_number l.caller)) (drop l.place (numbered l.seen.leagues)))
      ≡ l.fn.out.tokens ++ tokens_of (my_leagues_window l.seen.leagues (caller_number l.caller));
  before : l.out.before ≡ l.fn.out.before;
}
