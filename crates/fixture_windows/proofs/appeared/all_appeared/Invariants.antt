use Rattle.std.proofs.Common.{◌≡◌, map, take}
use Rattle.rule_book.specs.MatchFacts.{lines_of}
use Rattle.fixture_windows.specs.Appeared.{appeared_of}
use Rattle.fixture_windows.proofs.appeared.all_appeared.Given as goal

abbrev pub invariant-loop-place : goal.invariant-loop-place
invariant-loop-place g l =
    l.all.items ≡ map (appeared_of l.seen.facts l.fixture) (take l.place (lines_of l.seen.facts.matches l.fixture.id))
