use Rattle.std.proofs.Common.{◌≡◌, ◌==◌, drop}
use Rattle.std.specs.List.{list_any}
use Rattle.rule_book.specs.MatchFacts.{players_in}
use Rattle.record_changes.proofs.listing.has_line.Given as goal

abbrev pub invariant-loop-line : goal.invariant-loop-line
invariant-loop-line l = list_any (λ p. p == l.player) (players_in (drop l.line-index l.lines)) ≡ list_any (λ p. p == l.player) (players_in l.lines)
