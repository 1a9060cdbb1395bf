-- Who comes to a round of a cup, by those who are told to go on from the one before it.
use Rattle.std.proofs.Common.{◌≡◌, ◌∙◌, ◌<◌, ◌+◌, ◌==◌, ℕ, false, List, Option, Some, get_or, length, if◌then◌else◌, arith, sym, ap}
use Rattle.std.proofs.lemmas.Bool.Decides.{nat_tests}
use Rattle.std.proofs.lemmas.List.FromFn.{get_or-map-range_with_len, length-map-range_with_len}
use Rattle.rule_book.specs.declared.cup.Bracket.{Bracket}
use Rattle.rule_book.specs.declared.cup.Side.{Side}
use Rattle.rule_book.specs.CupRounds.{locked_winners, rounds_of, rounds_shown}
use Rattle.season_book.specs.CupWindow.{comer_at}

module _ (b : Bracket) (side : ℕ → ℕ → Side) (locked : ℕ) (through : List (Option (List ℕ))) (told : through ≡ rounds_shown b side locked) where
  -- there are as many rounds as the cup has
  pub as_many_rounds : length through ≡ rounds_of b
  as_many_rounds = ap length told ∙ length-map-range_with_len (locked_winners b side locked) 1 (rounds_of b)

  -- who goes on from a round comes to the next
  pub comers_told : (before i place : ℕ) (winners : Option (List ℕ)) → 1 + i ≡ before → i < rounds_of b → winners ≡ get_or through i winners
      → comer_at winners place ≡ comer_at (if before == 0 then Some b.slots else locked_winners b side locked before) place
  comers_told before i place winners number below is =
      let some : (before == 0) ≡ false = grind (arith, nat_tests, number) in
      ap (λ w. comer_at w place) (is ∙ ap (λ t. get_or t i winners) told ∙ get_or-map-range_with_len (locked_winners b side locked) 1 (rounds_of b) i before winners below number)
      ∙ ap (λ t. comer_at (if t then Some b.slots else locked_winners b side locked before) place) (sym some)
