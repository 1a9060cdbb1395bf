use Rattle.std.proofs.Common.{◌≡◌, ◌++◌, ◌&&◌, drop, filter, not}
use Rattle.json_members.specs.Tokens.{tokens_of}
use Rattle.json_members.proofs.ListLemmas.{rest_of}
use Rattle.rule_book.specs.MatchFacts.{has_facts}
use Rattle.season_book.specs.Windows.{listed}
use Rattle.season_book.specs.ElementSummary.{coming_row, has_club}
use Rattle.fixture_windows.proofs.element_summary.write_coming.Given as goal

-- the tokens so far, and then those of what is left, are those of all
abbrev pub invariant-loop-fixture : goal.invariant-loop-fixture
invariant-loop-fixture g l = record {
  tokens : l.out.tokens ++ rest_of (coming_row l.club) (filter (λ fixture. has_club l.club fixture && not (has_facts l.seen.facts.matches fixture.id)) (drop l.fixture-index l.order))
      ≡ l.fn.out.tokens ++ tokens_of (listed (coming_row l.club) (filter (λ fixture. has_club l.club fixture && not (has_facts l.seen.facts.matches fixture.id)) l.order));
  before : l.out.before ≡ l.fn.out.before;
}
