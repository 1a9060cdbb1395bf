use Rattle.std.proofs.Common.{◌≡◌, ◌++◌, ℕ, List, None, take}
use Rattle.rule_book.specs.declared.line.Line.{Line}
use Rattle.rule_book.specs.ById.{at_id}
use Rattle.rule_book.specs.MatchFacts.{lines_of}
use Rattle.bootstrap_window.specs.Tables.{AllSmall, Sums, totals_in}
use Rattle.bootstrap_window.proofs.TableFacts.{beside}
use Rattle.bootstrap_window.proofs.table.add_rows.Given as goal

-- the sums with the lines so far; and who has none of them has what he had
abbrev pub invariant-loop-place : goal.invariant-loop-place
invariant-loop-place g l = record {
  sums : (before : ℕ → List (ℕ × Line)) → Sums l.seen.facts l.fn.table before → Sums l.seen.facts l.table (λ p. before p ++ beside l.fn.fixture (at_id (take l.place (lines_of l.seen.facts.matches l.fn.fixture)) p));
  small : AllSmall l.table;
  same : (p : ℕ) → at_id (take l.place (lines_of l.seen.facts.matches l.fn.fixture)) p ≡ None → totals_in l.table p ≡ totals_in l.fn.table p;
}
