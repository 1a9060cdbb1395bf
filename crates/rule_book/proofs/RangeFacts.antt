-- How far from 0 a player's gameweek can be.
use Rattle.std.proofs.Common.{◌≡◌, ◌≤◌, ◌+◌, ◌-◌, ◌*◌, ℕ, suc, Bool, true, false, List, [], ◌∷◌, ◌++◌, Option, Some, None, length, map, get_or, arith, refl, pos, neg_ℤ, if◌then◌else◌, nat_le, nat_eq}
use Rattle.std.specs.Prelude.{ℤ, ◌+ℤ◌, ◌≤ℤ◌, fold, sum_by}
use Rattle.std.specs.List.{flat_map}
use Rattle.std.specs.Option.{option_map_or}
use Rattle.std.proofs.lemmas.Int.{ints}
use Rattle.std.proofs.lemmas.List.Elements.{All-map}
use Rattle.std.proofs.lemmas.List.Sums.{sum_by-cons}
use Rattle.fpl_base.specs.declared.kinds.Position.{Position}
use Rattle.fpl_base.specs.declared.kinds.Position.TheVariants.{Keeper, Defender, Midfielder, Forward}
use Rattle.fpl_base.specs.declared.kinds.Profile.{Profile}
use Rattle.fpl_base.specs.declared.kinds.Profile.TheVariants as profile
use Rattle.rule_book.specs.declared.line.Line.{Line}
use Rattle.rule_book.specs.declared.player.Player.{Player}
use Rattle.rule_book.specs.declared.team.Pick.{Pick}
use Rattle.rule_book.specs.Bonus.{bonus_in, standing, takes_part, number_above}
use Rattle.rule_book.specs.BonusPoints.{bps_of}
use Rattle.rule_book.specs.Calendar.{standing as standing_in}
use Rattle.rule_book.specs.FigureRange.{AreFiguresOfTwenty, AreLinesInRange, FiguresAreInRange, IsWithin}
use Rattle.rule_book.specs.Figures.{IsLine, figure}
use Rattle.rule_book.specs.MatchFacts.{MatchFacts, is_finished, line_of, lines_of}
use Rattle.rule_book.specs.PlayerFigures.{appearance, bonus_at, figures_in, line_beside, points_at, position_in}
use Rattle.rule_book.specs.Points.{clean_sheet_points, counted_yellow, is_clean_sheet, minutes_points, points_column, points_of}
use Rattle.rule_book.specs.ScoreRange.{TeamFiguresAreInRange}
use Rattle.rule_book.specs.Scoring.{by_position, gains, losses}

-- the figures that points read
pub record Bounded (line : Line) : Type 0 where
  goals : figure line 2 ≤ 99
  assists : figure line 3 ≤ 99
  conceded : figure line 4 ≤ 99
  saves : figure line 5 ≤ 99
  penalty_saves : figure line 6 ≤ 99
  penalty_misses : figure line 7 ≤ 99
  yellow : figure line 8 ≤ 1
  red : figure line 9 ≤ 1
  own_goals : figure line 10 ≤ 99

bounded : (line : Line) → IsLine line → Bounded line
bounded line is = record {
  goals = is 2 (omega arith) (omega arith);
  assists = is 3 (omega arith) (omega arith);
  conceded = is 4 (omega arith) (omega arith);
  saves = is 5 (omega arith) (omega arith);
  penalty_saves = is 6 (omega arith) (omega arith);
  penalty_misses = is 7 (omega arith) (omega arith);
  yellow = is 8 (omega arith) (omega arith);
  red = is 9 (omega arith) (omega arith);
  own_goals = is 10 (omega arith) (omega arith);
}

gains_near : (p : Profile) (position : Position) (line : Line) → Bounded line → gains (points_column p position) line ≤ 1815
gains_near profile.A Keeper line b = omega (arith, b)
gains_near profile.A Defender line b = omega (arith, b)
gains_near profile.A Midfielder line b = omega (arith, b)
gains_near profile.A Forward line b = omega (arith, b)
gains_near profile.B Keeper line b = omega (arith, b)
gains_near profile.B Defender line b = omega (arith, b)
gains_near profile.B Midfielder line b = omega (arith, b)
gains_near profile.B Forward line b = omega (arith, b)

losses_near : (p : Profile) (position : Position) (line : Line) → Bounded line → losses (points_column p position) line ≤ 448
losses_near profile.A Keeper line b = omega (arith, b)
losses_near profile.A Defender line b = omega (arith, b)
losses_near profile.A Midfielder line b = omega (arith, b)
losses_near profile.A Forward line b = omega (arith, b)
losses_near profile.B Keeper line b = omega (arith, b)
losses_near profile.B Defender line b = omega (arith, b)
losses_near profile.B Midfielder line b = omega (arith, b)
losses_near profile.B Forward line b = omega (arith, b)

two_at_most : (hour any : Bool) → (if hour then 2 else if any then 1 else 0) ≤ 2
two_at_most true any = omega arith
two_at_most false true = omega arith
two_at_most false false = omega arith

four_at_most : (clean : Bool) (position : Position) → (if clean then by_position 4 4 1 0 position else 0) ≤ 4
four_at_most false position = omega arith
four_at_most true Keeper = omega arith
four_at_most true Defender = omega arith
four_at_most true Midfielder = omega arith
four_at_most true Forward = omega arith

yellow_at_most : (red : Bool) (line : Line) → Bounded line → (if red then 0 else figure line 8) ≤ 1
yellow_at_most true line b = omega arith
yellow_at_most false line b = b.yellow

points_near : (p : Profile) (position : Position) (line : Line) → Bounded line → (neg_ℤ (pos 449) ≤ℤ points_of p position line) × (points_of p position line ≤ℤ pos 1821)
unfolding points_of
points_near p position line b =
    let m : minutes_points line ≤ 2 = two_at_most (nat_le 60 (figure line 1)) (nat_le 1 (figure line 1)) in
    let c : clean_sheet_points position line ≤ 4 = four_at_most (is_clean_sheet line) position in
    let y : counted_yellow line ≤ 1 = yellow_at_most (nat_eq (figure line 9) 1) line b in
    let g = gains_near p position line b in
    let l = losses_near p position line b in
    (omega (arith, ints), omega (arith, ints))

three_at_most : (b : Bool) (n : ℕ) → (if b then 3 - n else 0) ≤ 3
three_at_most true n = omega arith
three_at_most false n = omega arith

bonus_near_by : (finished : Bool) (n : ℕ) → n ≤ 3 → (if finished then n else 0) ≤ 3
bonus_near_by true n le = le
bonus_near_by false n le = omega arith

module _ (p : Profile) (players : List Player) (facts : MatchFacts) (player : ℕ) (range : AreLinesInRange facts) where
  bonus_near : (f : ℕ) (line : Line) → bonus_at players facts f (player, line) ≤ 3
  bonus_near f line =
      let match = map (appearance players) (lines_of facts f) in
      let own = appearance players (player, line) in
      bonus_near_by (is_finished facts f) (bonus_in match own) (three_at_most (takes_part own.line) (number_above (standing match) (bps_of own.position own.line)))

  match_near : (f : ℕ) (line : Line) → line_of facts f player ≡ Some line → IsWithin 2000 (points_at p players facts f (player, line))
  match_near f line there =
      let points = points_near p (position_in players player) line (bounded line (range f player line there)) in
      let bonus = bonus_near f line in
      (omega (arith, ints, points.0, bonus), omega (arith, ints, points.1, bonus))

  abbrev add : ℤ → ℕ × Line → ℤ
  add total row = total +ℤ points_at p players facts row.0 (player, row.1)

  abbrev rows_of : List ℕ → List (ℕ × Line)
  rows_of fs = flat_map (line_beside facts player) fs

  abbrev beside : ℕ → Option Line → List (ℕ × Line)
  beside f o = option_map_or (λ line. (f, line) ∷ []) o []

  one_adds : (f m n : ℕ) (fs : List ℕ) (so_far : ℤ) (o : Option Line) → line_of facts f player ≡ o → IsWithin (2000 * n) so_far → IsWithin (2000 * (n + m)) (fold add so_far (rows_of fs)) → ((next : ℤ) → IsWithin (2000 * (n + 1)) next → IsWithin (2000 * ((n + 1) + m)) (fold add next (rows_of fs))) → IsWithin (2000 * (n + suc m)) (fold add so_far (beside f o ++ rows_of fs))
  one_adds f m n fs so_far None e near rest more = (omega (arith, ints, rest.0), omega (arith, ints, rest.1))
  one_adds f m n fs so_far (Some line) e near rest more =
      let here = match_near f line e in
      let next : IsWithin (2000 * (n + 1)) (add so_far (f, line)) = (omega (arith, ints, near.0, here.0), omega (arith, ints, near.1, here.1)) in
      let after = more (add so_far (f, line)) next in
      (omega (arith, ints, after.0), omega (arith, ints, after.1))

  points_add_up : (fs : List ℕ) (n : ℕ) (so_far : ℤ) → IsWithin (2000 * n) so_far → IsWithin (2000 * (n + length fs)) (fold add so_far (rows_of fs))
  points_add_up [] n so_far near = (omega (arith, ints, near.0), omega (arith, ints, near.1))
  points_add_up (f ∷ fs) n so_far near = one_adds f (length fs) n fs so_far (line_of facts f player) refl near (points_add_up fs n so_far near) (points_add_up fs (n + 1))

  one_counts : (read : Line → ℕ) → ((line : Line) → Bounded line → read line ≤ 99) → (f m : ℕ) (fs : List ℕ) (o : Option Line) → line_of facts f player ≡ o → sum_by (λ row. read row.1) (rows_of fs) ≤ 99 * m → sum_by (λ row. read row.1) (beside f o ++ rows_of fs) ≤ 99 * suc m
  one_counts read few f m fs None e rest = omega (arith, rest)
  one_counts read few f m fs (Some line) e rest =
      let here : read line ≤ 99 = few line (bounded line (range f player line e)) in
      let step = sum_by-cons (λ (row : ℕ × Line). read row.1) (f, line) (rows_of fs) in
      omega (arith, rest, here, step)

  counts_add_up : (read : Line → ℕ) → ((line : Line) → Bounded line → read line ≤ 99) → (fs : List ℕ) → sum_by (λ row. read row.1) (rows_of fs) ≤ 99 * length fs
  counts_add_up read few [] = omega arith
  counts_add_up read few (f ∷ fs) = one_counts read few f (length fs) fs (line_of facts f player) refl (counts_add_up read few fs)

pub figures_in_range : FiguresAreInRange
figures_in_range p calendar players facts player g range few =
    let points = points_add_up p players facts player range (standing_in calendar g) 0 (pos 0) (omega (arith, ints), omega (arith, ints)) in
    let goals = counts_add_up p players facts player range (λ line. figure line 2) (λ line b. b.goals) (standing_in calendar g) in
    let conceded = counts_add_up p players facts player range (λ line. figure line 4) (λ line b. b.conceded) (standing_in calendar g) in
    record {
      points = (omega (arith, ints, points.0, few), omega (arith, ints, points.1, few));
      goals = omega (arith, goals, few);
      conceded = omega (arith, conceded, few);
    }

pub team_figures_in_range : TeamFiguresAreInRange
team_figures_in_range p calendar players facts team g range few =
    All-map AreFiguresOfTwenty (λ (pick : Pick). figures_in p calendar players facts pick.player g) team.picks
    (λ k d lt. figures_in_range p calendar players facts (get_or team.picks k d).player g range few)
