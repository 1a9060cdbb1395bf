use Rattle.std.proofs.Common.{ℕ, ◌≡◌, ◌∙◌, ap, refl, Bool, true, false, cond, ◌&&◌, ◌||◌, ◌==◌}
use Rattle.std.specs.Prelude.{nat_lt, int_lt}
use Rattle.std.specs.Ordering.{is_lt, ordering_then, nat_cmp, int_cmp}
use Rattle.std.specs.declared.cmp.Ordering.TheVariants.{Less, Equal, Greater}
use Rattle.std.proofs.lemmas.Cmp.{nat_eq_equiv}
use Rattle.rule_book.specs.declared.tables.HeadScore.{HeadScore}
use Rattle.rule_book.specs.HeadToHead.{is_better}
use Rattle.leagues_and_cups.specs.HeadStanding.{standing_of_row}

by_tests : (more same higher lower : Bool) → is_lt (ordering_then (cond more Less (cond same Equal Greater)) (cond higher Less (cond lower Greater Equal))) ≡ (more || (same && higher))
by_tests true same higher lower = refl
by_tests false false higher lower = refl
by_tests false true true lower = refl
by_tests false true false true = refl
by_tests false true false false = refl

-- a standing comes first where its row is strictly better
pub less_is_better : (a b : ℕ × HeadScore) → is_lt (ordering_then (nat_cmp (standing_of_row b).points.0 (standing_of_row a).points.0) (int_cmp (standing_of_row b).scored.0 (standing_of_row a).scored.0)) ≡ is_better a b
less_is_better a b =
    by_tests (nat_lt b.1.points a.1.points) (b.1.points == a.1.points) (int_lt b.1.scored a.1.scored) (int_lt a.1.scored b.1.scored) ∙ ap (λ same. nat_lt b.1.points a.1.points || (same && int_lt b.1.scored a.1.scored)) (nat_eq_equiv.symm b.1.points a.1.points)
