-- How many reads the rounds and ties of a cup make.
use Rattle.std.proofs.Common.{◌≡◌, ◌≤◌, ◌+◌, ◌*◌, ◌/◌, ◌^◌, ℕ, Bool, true, false, length, nat_le, Some, None, if◌then◌else◌, arith, ap}
use Rattle.std.specs.Option.{option_map_or}
use Rattle.std.proofs.lemmas.Bool.{le-leb}
use Rattle.std.proofs.lemmas.Bool.Decides.{nat_tests}
use Rattle.std.proofs.lemmas.List.FromFn.{sum_by-map-range_with_len_more}
use Rattle.rule_book.specs.declared.cup.Bracket.{Bracket}
use Rattle.rule_book.specs.declared.cup.Side.{Side}
use Rattle.rule_book.specs.CupRounds.{locked_winners, rounds_of, rounds_shown, winners_of}
use Rattle.season_views.specs.Reads.{ties_of}
use Rattle.season_views.proofs.Counted.{sum_grows, ties_until}

-- two reads in a locked gameweek, none in an open one
pub two_reads : (t : Bool) (old mid new : ℕ) → mid ≤ old + (if t then 1 else 0) → new ≤ mid + (if t then 1 else 0) → new ≤ old + (if t then 2 else 0)
two_reads true old mid new first second = omega (arith, first, second)
two_reads false old mid new first second = omega (arith, first, second)

-- so for one tie more
pub tie_read : (t : Bool) (n start old new : ℕ) → old ≤ start + (if t then 2 * n else 0) → new ≤ old + (if t then 2 else 0) → new ≤ start + (if t then 2 * (n + 1) else 0)
tie_read true n start old new before one = omega (arith, before, one)
tie_read false n start old new before one = omega (arith, before, one)

module _ (b : Bracket) (side : ℕ → ℕ → Side) (locked : ℕ) where
  -- for the first ties of a round
  pub some_ties_read : (before n start reads : ℕ) (t : Bool) → nat_le (b.start + before) locked ≡ t → n ≤ length b.slots / 2 ^ (before + 1)
      → length (winners_of b side (before + 1)) ≡ length b.slots / 2 ^ (before + 1) → reads ≤ start + (if t then 2 * n else 0)
      → reads ≤ start + 2 * option_map_or length (locked_winners b side locked (before + 1)) 0
  some_ties_read before n start reads true is few long read =
      let by : b.start + before ≤ locked = grind (arith, nat_tests, is) in
      let played : nat_le (b.start + (before + 1)) (locked + 1) ≡ true = le-leb (b.start + (before + 1)) (locked + 1) (omega (arith, by)) in
      let shown : option_map_or length (locked_winners b side locked (before + 1)) 0 ≡ length (winners_of b side (before + 1)) =
      ap (λ t. option_map_or length (if t then Some (winners_of b side (before + 1)) else None) 0) played in
      omega (arith, shown, long, few, read)
  some_ties_read before n start reads false is few long read = omega (arith, read)

  -- for the rounds so far, and one more
  pub round_reads : (round start old new : ℕ) → old ≤ start + 2 * ties_until b side locked round → new ≤ old + 2 * option_map_or length (locked_winners b side locked (round + 1)) 0
      → new ≤ start + 2 * ties_until b side locked (round + 1)
  round_reads round start old new before after =
      let more = sum_by-map-range_with_len_more (λ winners. option_map_or length winners 0) (locked_winners b side locked) 1 round (round + 1) (omega arith) in
      omega (arith, before, after, more)

  -- they are no more than those of all rounds
  pub rounds_reads : (round start reads : ℕ) → round ≤ rounds_of b → reads ≤ start + 2 * ties_until b side locked round → reads ≤ start + 2 * ties_of (rounds_shown b side locked)
  rounds_reads round start reads few before =
      let most = sum_grows (λ winners. option_map_or length winners 0) (locked_winners b side locked) 1 round (rounds_of b) few in
      omega (arith, before, most)
