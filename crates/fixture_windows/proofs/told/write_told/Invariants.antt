use Rattle.std.proofs.Common.{◌≡◌, ◌++◌, drop}
use Rattle.json_members.specs.Tokens.{tokens_of}
use Rattle.json_members.proofs.ListLemmas.{rest_of}
use Rattle.season_book.specs.Windows.{listed}
use Rattle.fixture_windows.specs.Appeared.{pair_of}
use Rattle.season_book.specs.FixturesWindow.{value_row}
use Rattle.fixture_windows.proofs.told.write_told.Given as goal

-- the tokens so far, and then those of what is left, are those of all
abbrev pub invariant-loop-one : goal.invariant-loop-one
invariant-loop-one l = record {
  tokens : l.out.tokens ++ rest_of (λ told. value_row (pair_of told)) (drop l.one-index l.told) ≡ l.fn.out.tokens ++ tokens_of (listed (λ told. value_row (pair_of told)) l.told);
  before : l.out.before ≡ l.fn.out.before;
}
