-- The winners of each round, and how many rounds there are.
use Rattle.std.proofs.Common.{ℕ, ◌≡◌, ◌∙◌, refl, sym, ap, subst, ◌≤◌, ◌<◌, ◌+◌, ◌*◌, ◌/◌, ◌^◌, arith, add-one, length, get_or, slice_index, count_by, nat_le, inl, inr}
use Rattle.std.specs.List.{range_with_len}
use Rattle.std.proofs.Math.Nat.{div-eq_of_lt, div-one, pow-le-pow_right}
use Rattle.std.proofs.Math.Pow.{pow-lt}
use Rattle.std.proofs.lemmas.Bool.{cases_lt}
use Rattle.std.proofs.lemmas.List.FromFn.{fill_by_all, get_or-map-range_with_len, length-map-range_with_len}
use Rattle.std.proofs.lemmas.Nat.{shl-shr, shr-shr}
use Rattle.rule_book.specs.declared.cup.Bracket.{Bracket}
use Rattle.rule_book.specs.declared.cup.Side.{Side}
use Rattle.rule_book.specs.CupRounds.{rounds_of, winners_of}
use Rattle.rule_book.specs.Cups.{IsCup, coin_after, goes_through, winner}
use Rattle.leagues_and_cups.specs.Rounds.{RoundFollows, WinnersHalve, tie_won}
use Rattle.leagues_and_cups.specs.Shapes.{HasShape, IsTieAfter}
use Rattle.leagues_and_cups.proofs.RoundCases.{by_rounds}

-- how many of 2 to 1,024 are no more than n
abbrev powers_up_to : ℕ → ℕ
powers_up_to n = count_by (λ round. nat_le (2 ^ round) n) (range_with_len 1 10)

-- a cup of 2 ^ r slots has r rounds
pub rounds_are : (b : Bracket) (r : ℕ) → 1 ≤ r → r ≤ 10 → length b.slots ≡ 2 ^ r → rounds_of b ≡ r
rounds_are b r lo hi e =
    ap powers_up_to e ∙ by_rounds (λ r. powers_up_to (2 ^ r) ≡ r) refl refl refl refl refl refl refl refl refl refl r lo hi

pub shape_of_cup : (b : Bracket) (gameweeks : ℕ) → IsCup b gameweeks → HasShape b
shape_of_cup b gameweeks cup = let r = cup.rounds in ((r.0, r.1, r.2, r.3), cup.coin_for_each_tie)

pub winners_halve : (b : Bracket) (side : ℕ → ℕ → Side) (round : ℕ) → WinnersHalve b side round
winners_halve b side round = length-map-range_with_len (winner b side round) 0 (length b.slots / 2 ^ round)

winner_at : (b : Bracket) (side : ℕ → ℕ → Side) (round i : ℕ) → i < length b.slots / 2 ^ round → slice_index (winners_of b side round) i ≡ winner b side round i
winner_at b side round i lt =
    get_or-map-range_with_len (winner b side round) 0 (length b.slots / 2 ^ round) i i 0 lt (omega arith)

pub starts_by_slots : (b : Bracket) (side : ℕ → ℕ → Side) → winners_of b side 0 ≡ b.slots
starts_by_slots b side = sym (fill_by_all (winner b side 0) b.slots (length b.slots / 2 ^ 0) 0 (sym (div-one (length b.slots))) (λ k lt. refl))

halved_again : (n round : ℕ) → n / 2 ^ (round + 1) ≡ n / 2 ^ round / 2
halved_again n round = sym (shr-shr n round 1)

pub round_follows : (b : Bracket) (side : ℕ → ℕ → Side) (round : ℕ) → RoundFollows b side round
round_follows b side round =
    fill_by_all (tie_won b side round (winners_of b side round)) (winners_of b side (round + 1)) (length (winners_of b side round) / 2) 0 long at
  where
    half : length b.slots / 2 ^ (round + 1) ≡ length (winners_of b side round) / 2
    half = halved_again (length b.slots) round ∙ ap (λ n. n / 2) (sym (winners_halve b side round))

    long : length (winners_of b side (round + 1)) ≡ length (winners_of b side round) / 2
    long = winners_halve b side (round + 1) ∙ half

    at : (k : ℕ) → k < length (winners_of b side round) / 2 → get_or (winners_of b side (round + 1)) k 0 ≡ tie_won b side round (winners_of b side round) k
    at k lt =
        let within : k < length b.slots / 2 ^ (round + 1) = omega (arith, half) in
        let both : 2 * k + 1 < length b.slots / 2 ^ round = omega (arith, winners_halve b side round) in
        let one = winner_at b side round (2 * k) (omega arith) in
        let other = winner_at b side round (2 * k + 1) both in
        winner_at b side (round + 1) k within ∙ ap (λ n. winner b side n k) (add-one round)
        ∙ ap (λ w. goes_through w (winner b side round (2 * k + 1)) (λ e. side e (b.start + round)) (coin_after b round k)) (sym one)
        ∙ ap (λ w. goes_through (slice_index (winners_of b side round) (2 * k)) w (λ e. side e (b.start + round)) (coin_after b round k)) (sym other)

one_left : (r : ℕ) → 2 ^ r / 2 ^ r ≡ 1
one_left r = let e : 1 * 2 ^ r ≡ 2 ^ r = omega arith in subst (λ n. n / 2 ^ r ≡ 1) e (shl-shr 1 r)

pub one_wins : (b : Bracket) (side : ℕ → ℕ → Side) → HasShape b → length (winners_of b side (rounds_of b)) ≡ 1
one_wins b side ((r, lo, hi, e), coins) =
    ap (λ n. length (winners_of b side n)) (rounds_are b r lo hi e) ∙ winners_halve b side r ∙ ap (λ n. n / 2 ^ r) e ∙ one_left r

-- there are ties only after ten rounds or fewer
pub few_rounds : (b : Bracket) (round tie : ℕ) → HasShape b → IsTieAfter b round tie → round ≤ 10
few_rounds b round tie ((r, lo, hi, e), coins) lt =
    elim (cases_lt 10 round) [
      | inl more ↦
          let less : 2 ^ 10 < 2 ^ round = pow-lt more in
          let most : 2 ^ r ≤ 2 ^ 10 = pow-le-pow_right (omega arith) hi in
          let none : length b.slots / 2 ^ round ≡ 0 = div-eq_of_lt (omega (arith, e, less, most)) in
          absurd (omega (arith, none))
      | inr le ↦ le
    ]

-- a cup has few slots
pub most_slots : (b : Bracket) → HasShape b → length b.slots ≤ 1024
most_slots b ((r, lo, hi, e), coins) = let most : 2 ^ r ≤ 2 ^ 10 = pow-le-pow_right (omega arith) hi in omega (arith, e, most)
