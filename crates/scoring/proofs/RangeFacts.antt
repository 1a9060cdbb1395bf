-- How far from 0 a team's gameweek can be.
use Rattle.std.proofs.Common.{◌≡◌, ◌≤◌, ◌+◌, ◌-◌, ◌*◌, ℕ, Bool, true, false, List, [], ◌∷◌, Option, Some, None, length, arith, refl, subst, pos, if◌then◌else◌}
use Rattle.std.specs.Prelude.{ℤ, ◌+ℤ◌, ◌*ℤ◌, All, fold, sum_by, slice_get, not, ◌||◌}
use Rattle.std.specs.Option.{option_map_or}
use Rattle.std.proofs.lemmas.Int.{ints}
use Rattle.std.proofs.lemmas.List.Elements.{All-get_or}
use Rattle.std.proofs.lemmas.List.Sums.{sum_by-cons}
use Rattle.std.proofs.lemmas.Option.{get_or_from_slice_get, slice_get_within}
use Rattle.fpl_base.specs.declared.kinds.Chip.{Chip}
use Rattle.fpl_base.specs.declared.kinds.Chip.TheVariants as chip
use Rattle.rule_book.specs.declared.team.Team.{Team}
use Rattle.rule_book.specs.declared.team_score.Figures.{Figures}
use Rattle.rule_book.specs.Armbands.{armband_at, armband_of, factor_of}
use Rattle.rule_book.specs.FigureRange.{AreFiguresOfTwenty, IsWithin}
use Rattle.rule_book.specs.FinalSlots.{final_slots, slots_through}
use Rattle.rule_book.specs.ScoreOfTeam.{score_of}
use Rattle.rule_book.specs.ScoreRange.{IsScoreInRange, ScoresAreInRange}
use Rattle.rule_book.specs.TeamScores.{conceded_at, conceded_in, counting, extra_points, goals_at, goals_in, points_at, points_in, points_of_slots}
use Rattle.rule_book.specs.Teams.{all_slots, did_play, is_boost, is_still, starters}
use Rattle.scoring.proofs.SlotFacts.{long}

module _ (figures : List Figures) (few : All AreFiguresOfTwenty figures) where
  -- what a slot has, where its figures are there or not
  there : (i : ℕ) (x : Figures) → slice_get figures i ≡ Some x → AreFiguresOfTwenty x
  there i x e = subst AreFiguresOfTwenty (get_or_from_slice_get figures i x x e) (All-get_or AreFiguresOfTwenty figures i x (slice_get_within figures i x e) few)

  points_by : (i : ℕ) (o : Option Figures) → slice_get figures i ≡ o → IsWithin 40000 (option_map_or points_in o (pos 0))
  points_by i None e = (omega (arith, ints), omega (arith, ints))
  points_by i (Some x) e = (there i x e).points

  points_near : (slot : ℕ) → IsWithin 40000 (points_at figures slot)
  points_near slot = points_by (slot - 1) (slice_get figures (slot - 1)) refl

  goals_by : (i : ℕ) (o : Option Figures) → slice_get figures i ≡ o → option_map_or goals_in o 0 ≤ 1980
  goals_by i None e = omega arith
  goals_by i (Some x) e = (there i x e).goals

  conceded_by : (i : ℕ) (o : Option Figures) → slice_get figures i ≡ o → option_map_or conceded_in o 0 ≤ 1980
  conceded_by i None e = omega arith
  conceded_by i (Some x) e = (there i x e).conceded

  add_up : (slots : List ℕ) (n : ℕ) (so_far : ℤ) → IsWithin (40000 * n) so_far → IsWithin (40000 * (n + length slots)) (fold (λ total slot. total +ℤ points_at figures slot) so_far slots)
  add_up [] n so_far near = (omega (arith, ints, near.0), omega (arith, ints, near.1))
  add_up (slot ∷ slots) n so_far near =
      let here = points_near slot in
      let next : IsWithin (40000 * (n + 1)) (so_far +ℤ points_at figures slot) = (omega (arith, ints, near.0, here.0), omega (arith, ints, near.1, here.1)) in
      let rest = add_up slots (n + 1) (so_far +ℤ points_at figures slot) next in
      (omega (arith, ints, rest.0), omega (arith, ints, rest.1))

  pub slots_near : (slots : List ℕ) → length slots ≤ 15 → IsWithin 600000 (points_of_slots figures slots)
  slots_near slots short =
      let all = add_up slots 0 (pos 0) (omega (arith, ints), omega (arith, ints)) in
      (omega (arith, ints, all.0, short), omega (arith, ints, all.1, short))

  sums_near : (read : ℕ → ℕ) → ((slot : ℕ) → read slot ≤ 1980) → (slots : List ℕ) → sum_by read slots ≤ 1980 * length slots
  sums_near read least [] = omega arith
  sums_near read least (slot ∷ slots) = omega (arith, sums_near read least slots, least slot, sum_by-cons read slot slots)

  times_near : (c : Chip) (z : ℤ) → IsWithin 40000 z → IsWithin 80000 (pos (factor_of c - 1) *ℤ z)
  times_near chip.TripleCaptain z near = (omega (arith, ints, near.0), omega (arith, ints, near.1))
  times_near chip.None z near = (omega (arith, ints, near.0), omega (arith, ints, near.1))
  times_near chip.Wildcard z near = (omega (arith, ints, near.0), omega (arith, ints, near.1))
  times_near chip.FreeHit z near = (omega (arith, ints, near.0), omega (arith, ints, near.1))
  times_near chip.BenchBoost z near = (omega (arith, ints, near.0), omega (arith, ints, near.1))

  extra_near : (team : Team) (captain vice : Bool) → IsWithin 80000 (extra_points figures (if captain then Some (armband_at team.captain team) else if vice then Some (armband_at team.vice team) else None))
  extra_near team true vice = times_near team.chip (points_at figures team.captain) (points_near team.captain)
  extra_near team false true = times_near team.chip (points_at figures team.vice) (points_near team.vice)
  extra_near team false false = (omega (arith, ints), omega (arith, ints))

  eleven_by : (team : Team) (still : Bool) → length (if still then starters else slots_through team figures 10) ≡ 11
  eleven_by team true = refl
  eleven_by team false = long team figures 10

  fifteen_by : (boost : Bool) (eleven : List ℕ) → length eleven ≡ 11 → length (if boost then all_slots else eleven) ≤ 15
  fifteen_by true eleven e = omega arith
  fifteen_by false eleven e = omega (arith, e)

  pub score_near : (team : Team) (ended : Bool) (cost : ℕ) → cost ≤ 300000 → IsScoreInRange (score_of team figures ended cost)
  score_near team ended cost cheap =
      let eleven = final_slots team figures ended in
      let long : length eleven ≡ 11 = eleven_by team (is_still ended team) in
      let slots = slots_near (counting team eleven) (fifteen_by (is_boost team.chip) eleven long) in
      let extra : IsWithin 80000 (extra_points figures (armband_of team figures ended)) = extra_near team (not ended || did_play figures team.captain) (did_play figures team.vice) in
      record {
        net = (omega (arith, ints, slots.0, extra.0, cheap), omega (arith, ints, slots.1, extra.1, cheap));
        goals = omega (arith, sums_near (goals_at figures) (λ slot. goals_by (slot - 1) (slice_get figures (slot - 1)) refl) eleven, long);
        conceded = omega (arith, sums_near (conceded_at figures) (λ slot. conceded_by (slot - 1) (slice_get figures (slot - 1)) refl) eleven, long);
      }

pub scores_in_range : ScoresAreInRange
scores_in_range team figures ended cost few cheap = score_near figures few team ended cost cheap
