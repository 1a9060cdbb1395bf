-- Which of two comes first by an order and then by another, for rows that are ranked one after the other.
use Rattle.std.proofs.Common.{ℕ, ◌≡◌, ◌∙◌, sym, refl, ap, ◌<◌, Bool, true, false, arith}
use Rattle.std.specs.Ordering.{is_lt, nat_cmp, ordering_then, ordering_reverse}
use Rattle.std.specs.declared.cmp.Ordering.{Ordering}
use Rattle.std.specs.declared.cmp.Ordering.TheVariants.{Less, Equal, Greater}
use Rattle.std.proofs.lemmas.Bool.Decides.{nat_tests}
use Rattle.std.proofs.lemmas.Cmp.{nat_cmp_total, tied_itself}

pub first_not_less : (a b : Ordering) → is_lt (ordering_then a b) ≡ false → is_lt a ≡ false
first_not_less Less b e = e
first_not_less Equal b e = refl
first_not_less Greater b e = refl

pub then_not_less : (a b : Ordering) → is_lt (ordering_then a b) ≡ false → is_lt (ordering_reverse a) ≡ false → is_lt b ≡ false
then_not_less Less b e back = absurd (cc e)
then_not_less Equal b e back = e
then_not_less Greater b e back = absurd (cc back)

pub true_if : (b : Bool) → (b ≡ false → ⊥) → b ≡ true
true_if true never = refl
true_if false never = absurd (never refl)

pub not_both : (b : Bool) → b ≡ true → b ≡ false → ⊥
not_both b holds fails = absurd (cc (holds, fails))

pub as_each : (p q : Bool) → (p ≡ false → q ≡ false) → (q ≡ false → p ≡ false) → p ≡ q
as_each true true up down = refl
as_each true false up down = absurd (not_both true refl (down refl))
as_each false q up down = sym (up refl)

pub behind : (a b : ℕ) (o : Ordering) → b < a → is_lt (ordering_then (nat_cmp a b) o) ≡ false
behind a b o less = grind (arith, nat_tests)

pub beside : (a b : ℕ) (o : Ordering) → a ≡ b → is_lt o ≡ false → is_lt (ordering_then (nat_cmp a b) o) ≡ false
beside a b o same less = ap (λ n. is_lt (ordering_then (nat_cmp n b) o)) same ∙ ap (λ t. is_lt (ordering_then t o)) (tied_itself nat_cmp_total b) ∙ less
