-- What comes before another in a table is better.
use Rattle.std.proofs.Common.{ℕ, ℤ, ◌≡◌, ◌∙◌, refl, ap, Bool, true, false, cond, ◌&&◌, ◌||◌, ◌==◌}
use Rattle.std.specs.Prelude.{nat_lt, int_lt}
use Rattle.std.specs.Ordering.{int_cmp, is_eq, is_lt, nat_cmp, ordering_then}
use Rattle.std.specs.declared.cmp.Ordering.TheVariants.{Less, Equal, Greater}
use Rattle.std.proofs.lemmas.Cmp.{nat_eq_equiv}
use Rattle.rule_book.specs.ClassicTable.{is_better}
use Rattle.rule_book.specs.HeadToHead.{is_better as is_better_in_head}
use Rattle.rule_book.specs.declared.tables.HeadScore.{HeadScore}

by_tests : (more less fewer same : Bool) → is_lt (ordering_then (cond more Less (cond less Greater Equal)) (cond fewer Less (cond same Equal Greater))) ≡ (more || (is_eq (cond less Less (cond more Greater Equal)) && fewer))
by_tests true less fewer same = refl
by_tests false true fewer same = refl
by_tests false false true same = refl
by_tests false false false true = refl
by_tests false false false false = refl

pub less_is_better : (a b : ℕ × ℤ × ℕ) → is_lt (ordering_then (int_cmp b.1 a.1) (nat_cmp a.2 b.2)) ≡ is_better a b
less_is_better a b = by_tests (int_lt b.1 a.1) (int_lt a.1 b.1) (nat_lt a.2 b.2) (a.2 == b.2)

by_head_tests : (more same higher lower : Bool) → is_lt (ordering_then (cond more Less (cond same Equal Greater)) (cond higher Less (cond lower Greater Equal))) ≡ (more || (same && higher))
by_head_tests true same higher lower = refl
by_head_tests false false higher lower = refl
by_head_tests false true true lower = refl
by_head_tests false true false true = refl
by_head_tests false true false false = refl

pub less_is_better_in_head : (a b : ℕ × HeadScore) → is_lt (ordering_then (nat_cmp b.1.points a.1.points) (int_cmp b.1.scored a.1.scored)) ≡ is_better_in_head a b
less_is_better_in_head a b =
    by_head_tests (nat_lt b.1.points a.1.points) (b.1.points == a.1.points) (int_lt b.1.scored a.1.scored) (int_lt a.1.scored b.1.scored)
    ∙ ap (λ same. nat_lt b.1.points a.1.points || (same && int_lt b.1.scored a.1.scored)) (nat_eq_equiv.symm b.1.points a.1.points)
