use Rattle.std.proofs.Common.{◌≡◌, ◌++◌, drop}
use Rattle.std.specs.List.{zip}
use Rattle.json_members.specs.Tokens.{tokens_of}
use Rattle.json_members.proofs.ListLemmas.{rest_of}
use Rattle.season_book.specs.Windows.{figures_row, listed}
use Rattle.season_windows.proofs.windows.write_lines.Given as goal

-- the tokens so far, and then those of what is left, are those of all
abbrev pub invariant-loop-place : goal.invariant-loop-place
invariant-loop-place l = record {
  tokens : l.out.tokens ++ rest_of figures_row (drop l.place (zip l.players l.lines)) ≡ l.fn.out.tokens ++ tokens_of (listed figures_row (zip l.players l.lines));
  before : l.out.before ≡ l.fn.out.before;
}
