-- Which of two totals is better.
use Rattle.std.proofs.Common.{◌≡◌, ◌∙◌, ◌&&◌, ◌||◌, ℕ, ℤ, ◌+ℤ◌, Bool, true, false, true≢false, List, [], ◌∷◌, Option, Some, None, int_lt, nat_lt, arith, refl, sym, ap}
use Rattle.std.specs.Option.{option_map_or}
use Rattle.std.specs.Ordering.{int_eq}
use Rattle.std.proofs.lemmas.Bool.Decides.{Decides-int_eq}
use Rattle.std.proofs.lemmas.Int.{ints}
use Rattle.rule_book.specs.History.{Event}
use Rattle.rule_book.specs.HistoryRules.{FirstTold}
use Rattle.rule_book.specs.HistoryTransfers.{is_past_first}

not_less_both : (x y : ℤ) → int_lt x y ≡ true → int_lt y x ≡ true → ⊥
not_less_both x y e f = grind (arith, ints)

or_false : (b : Bool) → b ≡ (b || false)
or_false true = refl
or_false false = refl

by_eq : (total own : ℤ) (fewer t : Bool) → int_eq total own ≡ t → (total ≡ own → ⊥) → int_lt own total ≡ (int_lt own total || (t && fewer))
by_eq total own fewer true is apart = absurd (apart ((Decides-int_eq total own).0 is))
by_eq total own fewer false is apart = or_false (int_lt own total)

-- one that is another is better where it is greater
pub better_apart : (total own : ℤ) (fewer : Bool) → (total ≡ own → ⊥) → int_lt own total ≡ (int_lt own total || (int_eq total own && fewer))
better_apart total own fewer apart =
    by_eq total own fewer (int_eq total own) refl apart

not_itself : (own : ℤ) (t : Bool) → int_lt own own ≡ t → int_lt own own ≡ false
not_itself own true is = absurd (not_less_both own own is is)
not_itself own false is = is

-- one that is the same is better by fewer transfers
pub better_same : (total own : ℤ) (fewer : Bool) → total ≡ own → fewer ≡ (int_lt own total || (int_eq total own && fewer))
better_same total own fewer same =
    sym
    (ap (λ z. int_lt own z || (int_eq total own && fewer)) same
    ∙ ap (λ b. b || (int_eq total own && fewer)) (not_itself own (int_lt own own) refl)
    ∙ ap (λ b. b && fewer) ((Decides-int_eq total own).1 same))

-- a history has its first gameweek behind it, by what is told of it
pub past_told : (h : List Event) (first : Option ℕ) (g : ℕ) → FirstTold h first → option_map_or (λ f. nat_lt f g) first false ≡ is_past_first h g
past_told [] None g told = refl
past_told [] (Some f) g told = absurd (true≢false (sym told.0))
past_told (e ∷ h) None g told = absurd (true≢false told)
past_told (e ∷ h) (Some f) g told = ap (λ n. nat_lt n g) told.1

-- a result that is a sum is what the sum is
pub sum_is : (result one other due : ℤ) → result ≡ one +ℤ other → one +ℤ other ≡ due → result ≡ due
sum_is result one other due is more = is ∙ more
