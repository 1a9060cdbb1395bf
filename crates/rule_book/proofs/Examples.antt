-- Examples of the rules, computed by the definitions.
use Rattle.std.proofs.Common.{◌≡◌, refl, ℕ, pos, negsuc, [], ◌∷◌, None, Some}
use Rattle.fpl_base.specs.declared.rule.Rule.TheVariants.{StartPassed, DrawWrong}
use Rattle.rule_book.specs.declared.cup.Bracket.{Bracket}
use Rattle.rule_book.specs.declared.cup.Side.{Side}
use Rattle.rule_book.specs.Ranks.{rank_among}
use Rattle.rule_book.specs.ClassicTable.{is_better}
use Rattle.rule_book.specs.HeadToHead.{head_score, wrong_draw}
use Rattle.rule_book.specs.Cups.{wrong_cup, winner}

-- of 57 points after 3, 3 and 5 transfers and 60 after 9, the last is first, and the third is fourth
first_by_points : rank_among is_better ((1, pos 57, 3) ∷ (2, pos 57, 3) ∷ (3, pos 57, 5) ∷ (4, pos 60, 9) ∷ []) (4, pos 60, 9) ≡ 1
first_by_points = refl

shared_second : rank_among is_better ((1, pos 57, 3) ∷ (2, pos 57, 3) ∷ (3, pos 57, 5) ∷ (4, pos 60, 9) ∷ []) (2, pos 57, 3) ≡ 2
shared_second = refl

fourth_by_transfers : rank_among is_better ((1, pos 57, 3) ∷ (2, pos 57, 3) ∷ (3, pos 57, 5) ∷ (4, pos 60, 9) ∷ []) (3, pos 57, 5) ≡ 4
fourth_by_transfers = refl

-- a win, a draw and a loss
three_matches : head_score ((pos 50, pos 43) ∷ (pos 41, pos 41) ∷ (negsuc 0, pos 0) ∷ []) ≡ record { points = 4; won = 1; drawn = 1; lost = 1; scored = pos 90 }
three_matches = refl

-- a draw of one member, and one that names a member twice, are wrong
one_member : wrong_draw (7 ∷ []) (7 ∷ []) ≡ Some DrawWrong
one_member = refl

named_twice : wrong_draw (7 ∷ 7 ∷ []) (7 ∷ 9 ∷ []) ≡ Some DrawWrong
named_twice = refl

drawn : wrong_draw (9 ∷ 7 ∷ []) (7 ∷ 9 ∷ []) ≡ None
drawn = refl

-- a cup of four with one bye, in which all sides are level
abbrev cup_of_four : Bracket
cup_of_four = record { start = 1; slots = 1 ∷ 0 ∷ 2 ∷ 3 ∷ []; coins = 0 ∷ 1 ∷ 0 ∷ [] }

abbrev level : ℕ → ℕ → Side
level entry gameweek = record { net = pos 50; goals = 3; conceded = 1 }

in_two_gameweeks : wrong_cup cup_of_four 2 0 ≡ None
in_two_gameweeks = refl

too_long_for_one : wrong_cup cup_of_four 1 0 ≡ Some DrawWrong
too_long_for_one = refl

start_passed : wrong_cup cup_of_four 1 1 ≡ Some (StartPassed 1)
start_passed = refl

-- the bye lets entry 1 through, a coin of 1 sends entry 3 on, and a coin of 0 then entry 1
through_by_a_bye : winner cup_of_four level 1 0 ≡ 1
through_by_a_bye = refl

on_by_the_coin : winner cup_of_four level 1 1 ≡ 3
on_by_the_coin = refl

winner_of_the_cup : winner cup_of_four level 2 0 ≡ 1
winner_of_the_cup = refl
