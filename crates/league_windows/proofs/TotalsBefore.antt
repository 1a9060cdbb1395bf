-- A total without the last gameweek.
use Rattle.std.proofs.Common.{◌≡◌, ◌<◌, ◌≤◌, ◌+◌, ◌-◌, ℕ, ℤ, pos, false, inl, inr, [], ◌∷◌, Option, Some, None, map, max, nat_le, arith, refl, sym, ap, ◌∙◌}
use Rattle.std.specs.Prelude.{◌-ℤ◌, ◌+ℤ◌}
use Rattle.std.specs.List.{range_with_len}
use Rattle.std.specs.Option.{option_map_or}
use Rattle.std.proofs.lemmas.Bool.{cases_lt}
use Rattle.std.proofs.lemmas.Bool.Decides.{nat_tests}
use Rattle.std.proofs.lemmas.Int.{ints}
use Rattle.std.proofs.lemmas.List.FromFn.{map-range_with_len_more}
use Rattle.std.proofs.lemmas.List.Sums.{fold-append}
use Rattle.rule_book.specs.HeadToHead.{total_of}
use Rattle.rule_book.specs.Totals.{gameweeks, total_from}

-- points and more, without these
less : (a z : ℤ) → (a +ℤ z) -ℤ z ≡ a
less a z = omega (arith, ints)

-- points of some gameweeks, and of one more
sum_more : (net : ℕ → ℤ) (from count last : ℕ) → from + count ≡ last → total_of (map net (range_with_len from (count + 1))) ≡ total_of (map net (range_with_len from count)) +ℤ net last
sum_more net from count last at =
    ap total_of (map-range_with_len_more net from count last at)
    ∙ fold-append ◌+ℤ◌ (pos 0) (map net (range_with_len from count)) (net last ∷ [])

-- gameweeks up to one, without it
pub sum_less : (net : ℕ → ℤ) (from last : ℕ) → 1 ≤ last → from ≤ last → total_of (map net (gameweeks from last)) -ℤ net last ≡ total_of (map net (gameweeks from (last - 1)))
sum_less net from last one in_it =
    let count : ℕ = last - from in
    let now : (last + 1) - from ≡ count + 1 = omega (arith, in_it) in
    let then : (last - 1 + 1) - from ≡ count = omega (arith, one) in
    ap (λ n. total_of (map net (range_with_len from n)) -ℤ net last) now
    ∙ ap (λ z. z -ℤ net last) (sum_more net from count last (omega (arith, in_it)))
    ∙ less (total_of (map net (range_with_len from count))) (net last)
    ∙ ap (λ n. total_of (map net (range_with_len from n))) (sym then)

none_now : (net : ℕ → ℤ) (from last : ℕ) → last < from → total_of (map net (gameweeks from last)) ≡ pos 0
none_now net from last late = let none : (last + 1) - from ≡ 0 = omega (arith, late) in ap (λ n. total_of (map net (range_with_len from n))) none

-- the total of an entry through a gameweek, without what it has there, is the one through the gameweek before; there it has
-- nothing unless it has begun
pub total_less : (net : ℕ → ℤ) (from last : ℕ) (first : Option ℕ) → 1 ≤ last → from ≤ last → (option_map_or (λ f. nat_le f last) first false ≡ false → net last ≡ pos 0)
    → total_from net from first last -ℤ net last ≡ total_from net from first (last - 1)
total_less net from last None one le nothing = ap (λ z. pos 0 -ℤ z) (nothing refl)
total_less net from last (Some first) one le nothing = elim (cases_lt last first) [
  | inl late ↦
      let no : nat_le first last ≡ false = grind (arith, nat_tests, late) in
      ap (λ z. total_of (map net (gameweeks (max from first) last)) -ℤ z) (nothing no)
      ∙ ap (λ z. z -ℤ pos 0) (none_now net (max from first) last (omega (arith, late)))
      ∙ sym (none_now net (max from first) (last - 1) (omega (arith, late)))
  | inr begun ↦ sum_less net (max from first) last one (omega (arith, begun, le))
]
