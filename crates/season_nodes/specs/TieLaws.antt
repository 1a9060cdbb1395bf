-- The ties of a bracket: how many there are, which two lead to one, and who can reach it.
use Rattle.std.proofs.Common.{◌≡◌, ℕ, zero, suc, ◌+◌, ◌-◌, ◌*◌, ◌/◌, ◌^◌, ◌<◌, ◌≤◌, ◌==◌, Bool, true, false, cond, ◌⊎◌, inl, inr, ⊎_elim, List, [], ◌∷◌, Option, Some, None, length, refl, sym, ◌∙◌, ap, subst, arith}
use Rattle.std.specs.List.{slice_get}
use Rattle.std.specs.Option.{unwrap_or}
use Rattle.std.proofs.Math.Nat.{add-sub_of_le, div-eq_of_lt, mul-div-le, mul-div_cancel_left, mul-le-mul_left, pow-le-pow_right}
use Rattle.std.proofs.Math.Pow.{pow-lt}
use Rattle.std.proofs.lemmas.Bool.{cases_lt}
use Rattle.std.proofs.lemmas.Nat.{pow-add, pow_pos, shr-shr, shr_le}
use Rattle.std.proofs.lemmas.Option.{slice_get_within}
use Rattle.rule_book.specs.Entries.{entry_in}
use Rattle.rule_book.specs.declared.cup.Bracket.{Bracket}
use Rattle.rescore_graph.specs.Graph.{Among}
use Rattle.leagues_and_cups.specs.Shapes.{IsTieAfter}
use Rattle.season_nodes.specs.Brackets.{bracket_in, is_in, no_bracket, ties_after}
use Rattle.season_nodes.specs.Reading.{or_case, or_left, or_right, same_number, same_test}

-- who is in some slots is among them
pub in_slots : (slots : List ℕ) (e : ℕ) → is_in slots e ≡ true → Among slots e
in_slots [] e is = absurd (cc)
in_slots (slot ∷ slots) e is = ⊎_elim (λ t. inl (same_number slot e t)) (λ r. inr (in_slots slots e r)) (or_case (slot == e) (is_in slots e) is)

pub slots_in : (slots : List ℕ) (e : ℕ) → Among slots e → is_in slots e ≡ true
slots_in [] e a = absurd a
slots_in (slot ∷ slots) e (inl is) = or_left (slot == e) (is_in slots e) (same_test slot e is)
slots_in (slot ∷ slots) e (inr a) = or_right (slot == e) (is_in slots e) (slots_in slots e a)

halved : (n r : ℕ) → n / 2 ^ (r + 1) / 2 ≡ n / 2 ^ (suc r + 1)
halved n r = let more : r + 1 + 1 ≡ suc r + 1 = omega arith in shr-shr n (r + 1) 1 ∙ ap (λ k. n / 2 ^ k) more

-- the two ties that lead to one
pub both_before : (n r i : ℕ) → i < n / 2 ^ (suc r + 1) → (2 * i < n / 2 ^ (r + 1)) × (2 * i + 1 < n / 2 ^ (r + 1))
both_before n r i low =
    let half = halved n r in
    let both : 2 * i + 1 < n / 2 ^ (r + 1) = omega (arith, half, low) in
    (omega (arith, both), both)

-- the slots that lead to a tie
pub part_within : (n r i : ℕ) → i < n / 2 ^ (r + 1) → 2 ^ (r + 1) * i + 2 ^ (r + 1) ≤ n
part_within n r i low =
    let w = 2 ^ (r + 1) in
    let up : i + 1 ≤ n / w = omega (arith, low) in
    let part : w * (i + 1) ≤ w * (n / w) = mul-le-mul_left w up in
    let all : w * (n / w) ≤ n = mul-div-le n w in
    omega (arith, part, all)

-- the slots of a cup are those of its ties in each round that has any
pub whole_round : (n k s : ℕ) → n ≡ 2 ^ k → 0 < n / 2 ^ s → n ≡ 2 ^ s * (n / 2 ^ s)
whole_round n k s is some =
    elim (cases_lt k s) [
      | inl less ↦ let none : n / 2 ^ s ≡ 0 = div-eq_of_lt (omega (arith, is, pow-lt less)) in absurd (omega (arith, some, none))
      | inr more ↦
          let up : s ≤ k = omega (arith, more) in
          let parts : n ≡ 2 ^ s * 2 ^ (k - s) = is ∙ ap (λ j. 2 ^ j) (sym (add-sub_of_le up)) ∙ pow-add 2 s (k - s) in
          let half : n / 2 ^ s ≡ 2 ^ (k - s) = ap (λ m. m / 2 ^ s) parts ∙ mul-div_cancel_left (2 ^ (k - s)) (pow_pos s) in
          parts ∙ ap (λ m. 2 ^ s * m) (sym half)
    ]

-- a cup has ten rounds at most
pub none_after : (n r : ℕ) → n ≤ 1024 → 10 ≤ r → n / 2 ^ (r + 1) ≡ 0
none_after n r few up =
    let long : 11 ≤ r + 1 = omega (arith, up) in
    let more : 2 ^ 11 ≤ 2 ^ (r + 1) = pow-le-pow_right (omega arith) long in
    div-eq_of_lt (omega (arith, more, few))

pub few_rounds : (n r i : ℕ) → n ≤ 1024 → i < n / 2 ^ (r + 1) → r < 10
few_rounds n r i few low =
    elim (cases_lt r 10) [
      | inl less ↦ less
      | inr more ↦ let none = none_after n r few more in absurd (omega (arith, none, low))
    ]

-- the entry of a number stands at the place before it
at_number : {X : Type 0} (xs : List X) (c : ℕ) (x : X) (t : Bool) → (c == 0) ≡ t → cond t None (slice_get xs (c - 1)) ≡ Some x → (1 ≤ c) × (c ≤ length xs)
at_number xs c x true e at = absurd (cc)
at_number xs zero x false e at = absurd (cc)
at_number xs (suc c) x false e at =
    let one : suc c - 1 ≡ c = omega arith in
    let low : c < length xs = slice_get_within xs c x (subst (λ k. slice_get xs k ≡ Some x) one at) in
    (omega arith, omega (arith, low))

none_there : (r i : ℕ) → i < ties_after no_bracket r → ⊥
none_there r i low = let none : 0 / 2 ^ (r + 1) ≤ 0 = shr_le 0 (r + 1) in omega (arith, none, low)

within_case : (cups : List Bracket) (c r i : ℕ) (o : Option Bracket) → entry_in cups c ≡ o → i < ties_after (unwrap_or o no_bracket) r → (1 ≤ c) × (c ≤ length cups)
within_case cups c r i None at low = absurd (none_there r i low)
within_case cups c r i (Some bracket) at low = at_number cups c bracket (c == 0) refl at

-- a cup that has ties is there
pub cup_within : (cups : List Bracket) (c r i : ℕ) → i < ties_after (bracket_in cups c) r → (1 ≤ c) × (c ≤ length cups)
cup_within cups c r i low = within_case cups c r i (entry_in cups c) refl low

-- a tie of a cup that is there is one of its bracket
pub tie_there : (cups : List Bracket) (c r i : ℕ) (bracket : Bracket) → entry_in cups c ≡ Some bracket → i < ties_after (bracket_in cups c) r → IsTieAfter bracket r i
tie_there cups c r i bracket at low =
    let here : i < ties_after bracket r = subst (λ (x : Bracket). i < ties_after x r) (ap (λ o. unwrap_or o no_bracket) at) low in
    let once : length bracket.slots / 2 ^ r / 2 ≡ length bracket.slots / 2 ^ (r + 1) = shr-shr (length bracket.slots) r 1 in
    subst (λ n. i < n) (sym once) here
