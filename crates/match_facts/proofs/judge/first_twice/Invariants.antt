use Rattle.std.proofs.Common.{ℕ, ◌≡◌, ◌<◌, ◌≤◌, take, false}
use Rattle.std.specs.List.{All}
use Rattle.rule_book.specs.MatchFacts.{players_in}
use Rattle.rule_book.specs.Repeats.{is_repeat}
use Rattle.match_facts.proofs.judge.first_twice.Given as goal

abbrev pub invariant-loop-place : goal.invariant-loop-place
invariant-loop-place l = record {
  once : (k : ℕ) → k < l.place → is_repeat (players_in l.lines) k ≡ false;
  below : All (λ row. row.0 ≤ l.greatest) (take l.place l.lines);
}
