use Rattle.std.proofs.Common.{◌≡◌, ◌<◌, ℕ, false, eqb, find, get_or}
use Rattle.rule_book.specs.declared.season.Fixture.{Fixture}
use Rattle.season_calendar.specs.Kept.{is_there_early}
use Rattle.season_calendar.proofs.season.first_early.Given as goal

abbrev pub invariant-loop-f : goal.invariant-loop-f
invariant-loop-f l = (j d : ℕ) → j < l.f-index → is_there_early l.t (find (λ (x : Fixture). eqb x.id (get_or l.ids j d)) l.fixtures) ≡ false
