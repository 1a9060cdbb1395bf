use Rattle.std.proofs.Common.{◌≡◌, ◌++◌, ◌==◌, drop}
use Rattle.std.specs.Prelude.{filter, not}
use Rattle.json_members.specs.Tokens.{tokens_of}
use Rattle.json_members.proofs.ListLemmas.{rest_of}
use Rattle.season_book.specs.Windows.{listed, numbered}
use Rattle.season_book.specs.PicksWindow.{substitution_row, substitutions}
use Rattle.entry_windows.proofs.writing.write_substitutions.Given as goal

-- the tokens so far, and then those of the starters that are left, are those of all
abbrev pub invariant-loop-place : goal.invariant-loop-place
invariant-loop-place l = record {
  tokens : l.out.tokens ++ rest_of (substitution_row l.team l.entry l.gameweek) (filter (λ row. not (row.0 == row.1)) (drop l.place (numbered l.slots)))
      ≡ l.fn.out.tokens ++ tokens_of (listed (substitution_row l.team l.entry l.gameweek) (substitutions l.slots));
  before : l.out.before ≡ l.fn.out.before;
}
