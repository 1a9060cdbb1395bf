-- Each node's own function of the values that the rule book tells gives the value that the rule book tells.
use Rattle.std.proofs.Common.{◌≡◌, ℕ, zero, suc, ◌+◌, ◌-◌, ◌*◌, ◌<◌, ◌≤◌, ◌==◌, max, ℤ, pos, ◌+ℤ◌, Bool, true, false, ◌&&◌, ◌||◌, cond, if◌then◌else◌, nat_le, inl, inr, ⊎_elim, List, [], ◌∷◌, ◌++◌, Option, Some, None, is_some, map, refl, sym, ◌∙◌, ap, ap₂, subst, arith, add-one, add_assoc, zero-add}
use Rattle.std.specs.List.{filter, flat_map, fold, list_any, range_with_len, slice_index, sum_by}
use Rattle.std.specs.Option.{option_map_or, unwrap_or}
use Rattle.std.proofs.lemmas.Bool.Decides.{leb_tells, nat_tests}
use Rattle.std.proofs.lemmas.List.Sums.{sum_by-cons}
use Rattle.std.proofs.lemmas.Option.{same_Some}
use Rattle.rule_book.specs.declared.line.Appearance.{Appearance}
use Rattle.rule_book.specs.declared.line.Line.{Line}
use Rattle.rule_book.specs.declared.team_score.Figures.{Figures}
use Rattle.rule_book.specs.ById.{at_id}
use Rattle.rule_book.specs.Bonus.{bonus_in, bonus_of, standing, takes_part}
use Rattle.rule_book.specs.BonusPoints.{bps_of}
use Rattle.rule_book.specs.Calendar.{standing as standing_in}
use Rattle.rule_book.specs.Figures.{figure}
use Rattle.rule_book.specs.MatchFacts.{Lines, is_finished, line_in, line_of, lines_of, players_in}
use Rattle.rule_book.specs.PlayerFigures.{appearance, bonus_at, line_beside, played_with, points_at, position_in}
use Rattle.rule_book.specs.Cups.{winner}
use Rattle.rule_book.specs.Entries.{entry_in}
use Rattle.rule_book.specs.HeadToHead.{head_score, total_of}
use Rattle.rule_book.specs.LeagueRows.{matches_of, place_of, points_against}
use Rattle.rule_book.specs.Leagues.{LeagueFacts}
use Rattle.rule_book.specs.ScoreOfTeam.{score_of}
use Rattle.rule_book.specs.Totals.{gameweeks, total_from}
use Rattle.rule_book.specs.declared.pairing.Opponent.{Opponent}
use Rattle.rule_book.specs.declared.pairing.Opponent.TheVariants.{Place, Average}
use Rattle.rescore_graph.specs.Graph.{Among}
use Rattle.season_nodes.specs.declared.nodes.LineWorth.{LineWorth}
use Rattle.season_nodes.specs.declared.nodes.Node.{Node}
use Rattle.season_nodes.specs.declared.nodes.Node.TheVariants as node
use Rattle.season_nodes.specs.declared.nodes.Value.{Value}
use Rattle.season_nodes.specs.declared.nodes.Value.TheVariants as value
use Rattle.season_nodes.specs.Rounds.{order_in}
use Rattle.season_nodes.specs.RowsTold.{HoldTheirOwn}
use Rattle.season_graph.specs.Lines.{IsLineTold}
use Rattle.season_nodes.specs.Season.{IsSeason, SeasonFacts, Rising, bonuses_in, bracket_of, comer_by, ended, fixtures_of, gathered, has_line, head_by, is_there, is_live, matches_by, no_figures, no_worth, opponent_in, own_value, points_by, side_by, tie_by, took_part, with_bonus, with_worth, worth_in, worth_of}
use Rattle.season_nodes.specs.SeasonLaws.{first_true, total_alive}
use Rattle.season_graph.specs.Told.{told, gameweek_figures, gameweek_score, head_told, net_told, side_told, tie_told}
use Rattle.season_nodes.proofs.DependentFacts.{below_or_above, same_test}
use Rattle.season_nodes.proofs.RowFacts.{rows_are_told}
use Rattle.season_nodes.proofs.TieFacts.{won}

within : (h n : ℕ) → h ≤ n → nat_le h n ≡ true
within h n e = ⊎_elim (λ a. a.0) (λ a. let x : n < h = a.1 in absurd (omega arith)) (leb_tells h n)

beyond : (h n : ℕ) → n < h → nat_le h n ≡ false
beyond h n e = ⊎_elim (λ a. let x : h ≤ n = a.1 in absurd (omega arith)) (λ a. a.0) (leb_tells h n)

-- the numbers of a range from one on
from_first : (f a n : ℕ) → filter (nat_le f) (range_with_len a n) ≡ range_with_len (max a f) ((a + n) - max a f)
from_first f a zero = let none : (a + 0) - max a f ≡ 0 = omega arith in ap (range_with_len (max a f)) (sym none)
from_first f a (suc n) = ⊎_elim
    (λ x.
    let low : f ≤ a = x.1 in
    let here : max a f ≡ a = omega arith in
    let next : max (a + 1) f ≡ a + 1 = omega arith in
    let whole : (a + suc n) - a ≡ suc n = omega arith in
    let rest : (a + 1 + n) - (a + 1) ≡ n = omega arith in
    ap (λ t. cond t (a ∷ filter (nat_le f) (range_with_len (a + 1) n)) (filter (nat_le f) (range_with_len (a + 1) n))) (within f a low)
    ∙ ap (λ ks. a ∷ ks) (from_first f (a + 1) n ∙ ap (λ m. range_with_len m ((a + 1 + n) - m)) next ∙ ap (range_with_len (a + 1)) rest)
    ∙ sym (ap (λ m. range_with_len m ((a + suc n) - m)) here ∙ ap (range_with_len a) whole))
    (λ x.
    let high : a < f = x.1 in
    let here : max (a + 1) f ≡ max a f = omega arith in
    let same : a + 1 + n ≡ a + suc n = omega arith in
    ap (λ t. cond t (a ∷ filter (nat_le f) (range_with_len (a + 1) n)) (filter (nat_le f) (range_with_len (a + 1) n))) (beyond f a high)
    ∙ from_first f (a + 1) n ∙ ap (λ m. range_with_len m ((a + 1 + n) - m)) here ∙ ap (λ k. range_with_len (max a f) (k - max a f)) same)
    (leb_tells f a)

nobody : (xs : List ℕ) → filter (λ g. false) xs ≡ []
nobody [] = refl
nobody (x ∷ xs) = nobody xs

-- the total of an entry that was issued is the sum over the locked gameweeks in which it has begun
counted_total : (net : ℕ → ℤ) (s locked : ℕ) (issued : Bool) (first : Option ℕ) → issued ≡ true
    → total_from net s first locked ≡ total_of (map net (filter (λ g. issued && option_map_or (λ f. nat_le f g) first false) (gameweeks s locked)))
counted_total net s locked false first e = absurd (cc)
counted_total net s locked true None e = ap (λ gs. total_of (map net gs)) (sym (nobody (gameweeks s locked)))
counted_total net s locked true (Some f) e =
    let same : (s + ((locked + 1) - s)) - max s f ≡ (locked + 1) - max s f = omega arith in
    ap (λ gs. total_of (map net gs)) (sym (from_first f s ((locked + 1) - s) ∙ ap (range_with_len (max s f)) same))

-- no player has two lines
abbrev Distinct : Lines → Type 0
Distinct [] = Unit {0}
Distinct (row ∷ lines) = (¬ Among (players_in lines) row.0) × Distinct lines

not_below : (n : ℕ) → n < n → ⊥
not_below n h = omega arith

pub ascending_distinct : (lines : Lines) → Rising (players_in lines) → Distinct lines
ascending_distinct [] up = tt
ascending_distinct (row ∷ lines) up = ((λ a. not_below row.0 (up.0 row.0 a)), ascending_distinct lines up.1)

part_case : (t u : Bool) (g : ℕ → ℕ × ℤ) (x : ℕ) (xs : List ℕ) (a : Appearance) (rest : List Appearance) → t ≡ u → g x ≡ (a.player, bps_of a.position a.line)
    → map g xs ≡ map (λ c. (c.player, bps_of c.position c.line)) rest → map g (cond t (x ∷ xs) xs) ≡ map (λ c. (c.player, bps_of c.position c.line)) (cond u (a ∷ rest) rest)
part_case true true g x xs a rest e i o = ap₂ (λ y ys. y ∷ ys) i o
part_case true false g x xs a rest e i o = absurd (cc)
part_case false true g x xs a rest e i o = absurd (cc)
part_case false false g x xs a rest e i o = o

abbrev figures_record : ℤ → Bool → ℕ → ℕ → Figures
figures_record points played goals conceded = record { points = points; played = played; goals = goals; conceded = conceded }

same_number : (m n : ℕ) → (m == n) ≡ true → m ≡ n
same_number m n e = grind (arith, nat_tests)

abbrev with_bonus_rows : List (ℕ × ℤ) → List Appearance → List (ℕ × ℕ)
with_bonus_rows table match = map (λ (row : ℕ × ℤ). (row.0, bonus_of table row.1)) (map (λ (a : Appearance). (a.player, bps_of a.position a.line)) (filter (λ a. takes_part a.line) match))

map_twice : {X Y Z : Type 0} (f : Y → Z) (g : X → Y) (xs : List X) → map f (map g xs) ≡ map (λ x. f (g x)) xs
map_twice f g [] = refl
map_twice f g (x ∷ xs) = ap (λ ys. f (g x) ∷ ys) (map_twice f g xs)

module _ (b : SeasonFacts) where
  -- who took part, by the worth of the lines
  pub took_part_is : (w : ℕ → LineWorth) (lines : Lines) → ((row : ℕ × Line) → Among lines row → w row.0 ≡ worth_of b.profile (position_in b.players row.0) row.1)
      → took_part w (players_in lines) ≡ standing (map (appearance b.players) lines)
  unfolding standing
  took_part_is w [] e = refl
  took_part_is w (row ∷ lines) e = part_case (nat_le 1 (w row.0).minutes) (takes_part row.1) (λ p. (p, (w p).bps)) row.0 (filter (λ p. nat_le 1 (w p).minutes) (players_in lines))
      (appearance b.players row) (filter (λ a. takes_part a.line) (map (appearance b.players) lines))
      (ap (λ (k : LineWorth). nat_le 1 k.minutes) (e row (inl refl))) (ap (λ (k : LineWorth). (row.0, k.bps)) (e row (inl refl)))
      (took_part_is w lines (λ r a. e r (inr a)))

  abbrev row_of : List (ℕ × ℤ) → Appearance → ℕ × ℕ
  row_of table a = (a.player, bonus_of table (bps_of a.position a.line))

  -- the rows of those of some lines who took part
  abbrev rows_of : List (ℕ × ℤ) → Lines → List (ℕ × ℕ)
  rows_of table lines = map (row_of table) (filter (λ a. takes_part a.line) (map (appearance b.players) lines))

  head_case : (table : List (ℕ × ℤ)) (p : ℕ) (a : Appearance) (rest : List Appearance) (t : Bool)
      → at_id (map (row_of table) (cond t (a ∷ rest) rest)) p ≡ cond t (cond (a.player == p) (Some (bonus_of table (bps_of a.position a.line))) (at_id (map (row_of table) rest) p)) (at_id (map (row_of table) rest) p)
  head_case table p a rest true = refl
  head_case table p a rest false = refl

  both_none : (t u : Bool) (n : ℕ) (o : Option ℕ) → u ≡ false → o ≡ None → cond t (cond u (Some n) o) o ≡ None
  both_none true u n o e i = ap (λ c. cond c (Some n) o) e ∙ i
  both_none false u n o e i = i

  rows_none : (table : List (ℕ × ℤ)) (lines : Lines) (p : ℕ) → (¬ Among (players_in lines) p) → at_id (rows_of table lines) p ≡ None
  rows_none table [] p n = refl
  rows_none table (row ∷ lines) p n =
      head_case table p (appearance b.players row) (filter (λ a. takes_part a.line) (map (appearance b.players) lines)) (takes_part row.1)
      ∙ both_none (takes_part row.1) (row.0 == p) (bonus_of table (bps_of (position_in b.players row.0) row.1)) (at_id (rows_of table lines) p)
      (below_or_above row.0 p (λ e. n (inl e))) (rows_none table lines p (λ a. n (inr a)))

  some_case : (t u : Bool) (row : ℕ × Line) (p : ℕ) (line : Line) (lines : Lines) (table : List (ℕ × ℤ)) → (row.0 == p) ≡ u → takes_part row.1 ≡ t
      → cond u (Some row.1) (line_in lines p) ≡ Some line → (u ≡ true → row.0 ≡ p) → (u ≡ true → at_id (rows_of table lines) p ≡ None)
      → (line_in lines p ≡ Some line → at_id (rows_of table lines) p ≡ (if takes_part line then Some (bonus_of table (bps_of (position_in b.players p) line)) else None))
      → cond t (cond u (Some (bonus_of table (bps_of (position_in b.players row.0) row.1))) (at_id (rows_of table lines) p)) (at_id (rows_of table lines) p)
      ≡ (if takes_part line then Some (bonus_of table (bps_of (position_in b.players p) line)) else None)
  some_case true true row p line lines table e f at same none more =
      let l = same_Some row.1 line at in
      ap₂ (λ x y. Some (bonus_of table (bps_of (position_in b.players x) y))) (same refl) l
      ∙ ap (λ t. if t then Some (bonus_of table (bps_of (position_in b.players p) line)) else None) (sym f ∙ ap takes_part l)
  some_case false true row p line lines table e f at same none more =
      none refl ∙ ap (λ t. if t then Some (bonus_of table (bps_of (position_in b.players p) line)) else None) (sym f ∙ ap takes_part (same_Some row.1 line at))
  some_case true false row p line lines table e f at same none more = more at
  some_case false false row p line lines table e f at same none more = more at

  rows_some : (table : List (ℕ × ℤ)) (lines : Lines) (p : ℕ) (line : Line) → Distinct lines → line_in lines p ≡ Some line
      → at_id (rows_of table lines) p ≡ (if takes_part line then Some (bonus_of table (bps_of (position_in b.players p) line)) else None)
  rows_some table [] p line d e = absurd (cc)
  rows_some table (row ∷ lines) p line d e =
      head_case table p (appearance b.players row) (filter (λ a. takes_part a.line) (map (appearance b.players) lines)) (takes_part row.1)
      ∙ some_case (takes_part row.1) (row.0 == p) row p line lines table refl refl e (same_number row.0 p)
      (λ i. rows_none table lines p (subst (λ x. ¬ Among (players_in lines) x) (same_number row.0 p i) d.0))
      (rows_some table lines p line d.1)

  rows_are : (table : List (ℕ × ℤ)) (match : List Appearance) → with_bonus_rows table match ≡ map (row_of table) (filter (λ a. takes_part a.line) match)
  rows_are table match = map_twice (λ (row : ℕ × ℤ). (row.0, bonus_of table row.1)) (λ a. (a.player, bps_of a.position a.line)) (filter (λ a. takes_part a.line) match)

  -- a bonus of 0 is that of who has none
  abbrev has_some : ℕ × ℕ → Bool
  has_some row = nat_le 1 row.1

  none_kept : (u v : Bool) (x : ℕ × ℕ) (rest : List (ℕ × ℕ)) (p : ℕ) → (x.0 == p) ≡ u → cond u (Some x.1) (at_id rest p) ≡ None → (at_id rest p ≡ None → at_id (filter has_some rest) p ≡ None)
      → at_id (cond v (x ∷ filter has_some rest) (filter has_some rest)) p ≡ None
  none_kept true v x rest p e none more = absurd (cc)
  none_kept false true x rest p e none more = ap (λ u. cond u (Some x.1) (at_id (filter has_some rest) p)) e ∙ more none
  none_kept false false x rest p e none more = more none

  kept_none : (rows : List (ℕ × ℕ)) (p : ℕ) → at_id rows p ≡ None → at_id (filter has_some rows) p ≡ None
  kept_none [] p none = refl
  kept_none (x ∷ rest) p none = none_kept (x.0 == p) (has_some x) x rest p refl none (kept_none rest p)

  no_bonus : (n : ℕ) → nat_le 1 n ≡ false → 0 ≡ n
  no_bonus n e = grind (arith, nat_tests)

  kept_one : (u v : Bool) (x : ℕ × ℕ) (rest : List (ℕ × ℕ)) (p : ℕ) → (x.0 == p) ≡ u → has_some x ≡ v → (u ≡ true → at_id rest p ≡ None)
      → unwrap_or (at_id (filter has_some rest) p) 0 ≡ unwrap_or (at_id rest p) 0
      → unwrap_or (at_id (cond v (x ∷ filter has_some rest) (filter has_some rest)) p) 0 ≡ unwrap_or (cond u (Some x.1) (at_id rest p)) 0
  kept_one true true x rest p e k none more = ap (λ u. unwrap_or (cond u (Some x.1) (at_id (filter has_some rest) p)) 0) e
  kept_one true false x rest p e k none more = ap (λ o. unwrap_or o 0) (kept_none rest p (none refl)) ∙ no_bonus x.1 k
  kept_one false true x rest p e k none more = ap (λ u. unwrap_or (cond u (Some x.1) (at_id (filter has_some rest) p)) 0) e ∙ more
  kept_one false false x rest p e k none more = more

  kept_of : (t : Bool) (table : List (ℕ × ℤ)) (a : Appearance) (others : List Appearance) (p : ℕ) → (a.player ≡ p → at_id (map (row_of table) others) p ≡ None)
      → unwrap_or (at_id (filter has_some (map (row_of table) others)) p) 0 ≡ unwrap_or (at_id (map (row_of table) others) p) 0
      → unwrap_or (at_id (filter has_some (map (row_of table) (cond t (a ∷ others) others))) p) 0 ≡ unwrap_or (at_id (map (row_of table) (cond t (a ∷ others) others)) p) 0
  kept_of true table a others p none more =
      kept_one (a.player == p) (has_some (row_of table a)) (row_of table a) (map (row_of table) others) p refl refl (λ i. none (same_number a.player p i)) more
  kept_of false table a others p none more = more

  rows_kept : (table : List (ℕ × ℤ)) (lines : Lines) (p : ℕ) → Distinct lines → unwrap_or (at_id (filter has_some (rows_of table lines)) p) 0 ≡ unwrap_or (at_id (rows_of table lines) p) 0
  rows_kept table [] p d = refl
  rows_kept table (row ∷ lines) p d =
      kept_of (takes_part row.1) table (appearance b.players row) (filter (λ a. takes_part a.line) (map (appearance b.players) lines)) p
      (λ i. rows_none table lines p (subst (λ x. ¬ Among (players_in lines) x) i d.0)) (rows_kept table lines p d.1)

  unwrapped : (t : Bool) (n : ℕ) → unwrap_or (if t then Some n else None) 0 ≡ (if t then n else 0)
  unwrapped true n = refl
  unwrapped false n = refl

  finished_case : (t : Bool) (f p : ℕ) (line : Line) → Distinct (lines_of b.matches f) → line_of b.matches f p ≡ Some line
      → unwrap_or (at_id (if t then with_bonus (standing (map (appearance b.players) (lines_of b.matches f))) else []) p) 0
      ≡ (if t then bonus_in (map (appearance b.players) (lines_of b.matches f)) (appearance b.players (p, line)) else 0)
  unfolding standing
  finished_case false f p line d e = refl
  finished_case true f p line d e =
      let match = map (appearance b.players) (lines_of b.matches f) in
      let table = standing match in
      ap (λ rows. unwrap_or (at_id (filter has_some rows) p) 0) (rows_are table match)
      ∙ rows_kept table (lines_of b.matches f) p d
      ∙ ap (λ o. unwrap_or o 0) (rows_some table (lines_of b.matches f) p line d e)
      ∙ unwrapped (takes_part line) (bonus_of table (bps_of (position_in b.players p) line))

  -- a player's bonus among those that the rule book tells
  pub bonus_told : (f p : ℕ) (line : Line) → Distinct (lines_of b.matches f) → line_of b.matches f p ≡ Some line
      → unwrap_or (at_id (bonuses_in (Some (told b (node.Bonus f)))) p) 0 ≡ bonus_at b.players b.matches f (p, line)
  bonus_told f p line d e = finished_case (is_finished b.matches f) f p line d e

  -- a player's lines in the fixtures, added up one after another
  abbrev beside_lines : ℕ → List ℕ → List (ℕ × Line)
  beside_lines p fs = flat_map (line_beside b.matches p) fs

  abbrev points_more : ℕ → ℤ → ℕ × Line → ℤ
  points_more p total row = total +ℤ points_at b.profile b.players b.matches row.0 (p, row.1)

  -- figures, and lines more
  abbrev figures_and : ℕ → Figures → List (ℕ × Line) → Figures
  figures_and p so_far lines = record {
    points = fold (points_more p) so_far.points lines;
    played = so_far.played || list_any (λ row. played_with row.1) lines;
    goals = so_far.goals + sum_by (λ row. figure row.1 2) lines;
    conceded = so_far.conceded + sum_by (λ row. figure row.1 4) lines;
  }

  same_figures : (points qoints : ℤ) (played qlayed : Bool) (goals hoals conceded donceded : ℕ) → points ≡ qoints → played ≡ qlayed → goals ≡ hoals → conceded ≡ donceded
      → figures_record points played goals conceded ≡ figures_record qoints qlayed hoals donceded
  same_figures points qoints played qlayed goals hoals conceded donceded i j k l = λ x. figures_record (i x) (j x) (k x) (l x)

  or_parts : (a m y r c : Bool) → ((a || (m || (y || r))) || c) ≡ (a || ((m || y || r) || c))
  or_parts true m y r c = refl
  or_parts false true y r c = refl
  or_parts false false true r c = refl
  or_parts false false false r c = refl

  one_line : (p f : ℕ) (so_far : Figures) (line : Line) (lines : List (ℕ × Line))
      → figures_and p (with_worth so_far (worth_of b.profile (position_in b.players p) line) (bonus_at b.players b.matches f (p, line))) lines ≡ figures_and p so_far ((f, line) ∷ lines)
  one_line p f so_far line lines =
      let g = sum_by-cons (λ (row : ℕ × Line). figure row.1 2) (f, line) lines in
      let c = sum_by-cons (λ (row : ℕ × Line). figure row.1 4) (f, line) lines in
      same_figures _ _ _ _ _ _ _ _ refl
      (or_parts so_far.played (nat_le 1 (figure line 1)) (figure line 8 == 1) (figure line 9 == 1) (list_any (λ row. played_with row.1) lines))
      (add_assoc so_far.goals (figure line 2) (sum_by (λ row. figure row.1 2) lines) ∙ ap (λ n. so_far.goals + n) (sym g))
      (add_assoc so_far.conceded (figure line 4) (sum_by (λ row. figure row.1 4) lines) ∙ ap (λ n. so_far.conceded + n) (sym c))

  module _ (p : ℕ) (distinct : (f : ℕ) → Distinct (lines_of b.matches f)) where
    abbrev worth_told : ℕ → LineWorth
    worth_told f = worth_in (Some (told b (node.Line f p)))

    abbrev bonus_by_told : ℕ → ℕ
    bonus_by_told f = unwrap_or (at_id (bonuses_in (Some (told b (node.Bonus f)))) p) 0

    abbrev step : Figures → ℕ → Figures
    step figures f = with_worth figures (worth_told f) (bonus_by_told f)

    or_none : (x : Bool) → x ≡ (x || false)
    or_none true = refl
    or_none false = refl

    added : (fs : List ℕ) (z : ℤ) (t : Bool) (n k : ℕ) → fold step (figures_record z t n k) (filter (has_line b p) fs) ≡ figures_and p (figures_record z t n k) (beside_lines p fs)
    added [] z t n k = same_figures z z t (t || false) n (n + 0) k (k + 0) refl (or_none t) (omega arith) (omega arith)
    added (f ∷ fs) z t n k = more (line_of b.matches f p) refl (added fs)
      where
        more : (o : Option Line) → line_of b.matches f p ≡ o
            → ((y : ℤ) (u : Bool) (m l : ℕ) → fold step (figures_record y u m l) (filter (has_line b p) fs) ≡ figures_and p (figures_record y u m l) (beside_lines p fs))
            → fold step (figures_record z t n k) (cond (is_some o) (f ∷ filter (has_line b p) fs) (filter (has_line b p) fs)) ≡ figures_and p (figures_record z t n k) (option_map_or (λ line. (f, line) ∷ []) o [] ++ beside_lines p fs)
        more None e rest = rest z t n k
        more (Some line) e rest =
            let so_far = figures_record z t n k in
            let next = step so_far f in
            rest next.points next.played next.goals next.conceded
            ∙ ap (λ figures. figures_and p figures (beside_lines p fs))
            (ap₂ (with_worth so_far) (ap (λ o. option_map_or (worth_of b.profile (position_in b.players p)) o no_worth) e) (bonus_told f p line (distinct f) e))
            ∙ one_line p f so_far line (beside_lines p fs)

    -- what a player did in a gameweek
    pub gameweek_told : (g : ℕ) → gathered worth_told bonus_by_told (fixtures_of b p g) ≡ gameweek_figures b p g
    gameweek_told g = added (standing_in b.calendar g) (pos 0) false 0 0
        ∙ same_figures _ _ _ _ _ _ _ _ refl refl (zero-add (sum_by (λ row. figure row.1 2) (beside_lines p (standing_in b.calendar g)))) (zero-add (sum_by (λ row. figure row.1 4) (beside_lines p (standing_in b.calendar g))))

  row_case : (t : Bool) (row : ℕ × Line) (lines : Lines) (p : ℕ) (line : Line) → t ≡ false → line_in lines p ≡ Some line → cond t (Some row.1) (line_in lines p) ≡ Some line
  row_case t row lines p line e o = ap (λ c. cond c (Some row.1) (line_in lines p)) e ∙ o

  among_players : (lines : Lines) (row : ℕ × Line) → Among lines row → Among (players_in lines) row.0
  among_players [] row a = absurd a
  among_players (r ∷ lines) row (inl e) = inl (ap (λ x. x.0) e)
  among_players (r ∷ lines) row (inr a) = inr (among_players lines row a)

  -- the line of a row is found by its player
  row_found : (lines : Lines) (row : ℕ × Line) → Distinct lines → Among lines row → line_in lines row.0 ≡ Some row.1
  row_found [] row d a = absurd a
  row_found (r ∷ lines) row d (inl e) = ap (λ c. cond c (Some r.1) (line_in lines row.0)) (same_test r.0 row.0 (ap (λ x. x.0) e)) ∙ ap (λ x. Some x.1) e
  row_found (r ∷ lines) row d (inr a) = row_case (r.0 == row.0) r lines row.0 row.1
      (below_or_above r.0 row.0 (λ e. d.0 (subst (λ x. Among (players_in lines) x) (sym e) (among_players lines row a)))) (row_found lines row d.1 a)

  nowhere : (t : Bool) (f : ℕ) (fs : List ℕ) → t ≡ false → cond t (f ∷ fs) fs ≡ fs
  nowhere true f fs e = absurd (cc)
  nowhere false f fs e = refl

  -- who has a line nowhere has one in none of some fixtures
  in_none : (p : ℕ) → ((f : ℕ) → has_line b p f ≡ false) → (fs : List ℕ) → filter (has_line b p) fs ≡ []
  in_none p none [] = refl
  in_none p none (f ∷ fs) = nowhere (has_line b p f) f (filter (has_line b p) fs) (none f) ∙ in_none p none fs

  there_case : (t : Bool) (p g : ℕ) → (t ≡ false → no_figures ≡ gameweek_figures b p g) → (if t then gameweek_figures b p g else no_figures) ≡ gameweek_figures b p g
  there_case true p g none = refl
  there_case false p g none = none refl

  lineless : (t : Bool) → (t ≡ true → ⊥) → t ≡ false
  lineless true n = absurd (n refl)
  lineless false n = refl

  false_true : false ≡ true → ⊥
  false_true e = cc

  -- a player who is not there has no lines, and so the figures of nothing
  figures_told : ((f : ℕ) → Distinct (lines_of b.matches f)) → ((f p : ℕ) → has_line b p f ≡ true → is_there b p ≡ true) → (p g : ℕ)
      → (if is_there b p then gameweek_figures b p g else no_figures) ≡ gameweek_figures b p g
  figures_told distinct there p g = there_case (is_there b p) p g (λ absent.
      ap (gathered (worth_told p distinct) (bonus_by_told p distinct))
      (sym (in_none p (λ f. lineless (has_line b p f) (λ y. false_true (sym absent ∙ there f p y))) (standing_in b.calendar g)))
      ∙ gameweek_told p distinct g)

  -- what is told of the points of an opponent is what the Average and the members are told
  abbrev told_by : Node → Option Value
  told_by m = Some (told b m)

  against : (l g : ℕ) (o : Opponent) → points_against (net_told b) (order_in b.leagues l) g o ≡ points_by b told_by l g o
  against l g (Place j) = refl
  against l g Average = refl

  -- each Average and each match is told its own value
  own_rounds : HoldTheirOwn b told_by
  own_rounds = record {
    averages = λ l g live. refl;
    matches = λ l g i live. ap (λ points. Some (value.Match (net_told b (slice_index (order_in b.leagues l) i) g, points))) (against l g (opponent_in b l g i));
  }

  league_case : (l e : ℕ) (o : Option LeagueFacts) → entry_in b.leagues l ≡ o
      → option_map_or (λ league. head_score (matches_of (net_told b) b.calendar.locked league e)) o (head_score []) ≡ head_by b told_by l e
  league_case l e None at =
      ap (λ o. head_score (option_map_or (matches_by b told_by l) (place_of (option_map_or (λ (league : LeagueFacts). league.order) o []) e) [])) (sym at)
  league_case l e (Some league) at = sym (ap (λ row. row.1) (rows_are_told b told_by own_rounds l e league at))

  head_is_told : (l e : ℕ) → head_told b l e ≡ head_by b told_by l e
  head_is_told l e = league_case l e (entry_in b.leagues l) refl

  no_place : (o : Option ℕ) (make : ℕ → List (ℤ × ℤ)) → is_some o ≡ false → option_map_or make o [] ≡ []
  no_place None make e = refl
  no_place (Some i) make e = absurd (false_true (sym e))

  rowless : (t : Bool) (l e : ℕ) → is_some (place_of (order_in b.leagues l) e) ≡ t → (if t then head_told b l e else head_score []) ≡ head_told b l e
  rowless true l e is = refl
  rowless false l e is = sym (head_is_told l e ∙ ap head_score (no_place (place_of (order_in b.leagues l) e) (matches_by b told_by l) is))

  -- who has no row has nothing of his matches
  pub head_always : (l e : ℕ) → (if is_live b (node.HeadRow l e) then head_told b l e else head_score []) ≡ head_told b l e
  head_always l e = rowless (is_some (place_of (order_in b.leagues l) e)) l e refl

  -- who comes to a place of a round is told to have won it
  comes : (c r i : ℕ) → comer_by b told_by c r i ≡ winner (bracket_of b c) (side_by b told_by) r i
  comes c zero i = refl
  comes c (suc r) i = ap (λ k. winner (bracket_of b c) (side_told b) k i) (add-one r)

  tie_is_told : (c r i : ℕ) → is_live b (node.Tie c r i) ≡ true → tie_told b c r i ≡ tie_by b told_by c r i
  tie_is_told c r i live = ap (λ k. winner (bracket_of b c) (side_told b) k i) (add-one r) ∙ sym (won b told_by c r i live (comes c r (2 * i)) (comes c r (2 * i + 1)))

  -- the value that the rule book tells of a node is its own function of those that it tells of its inputs
  pub own_told : ((f : ℕ) → Distinct (lines_of b.matches f)) → ((f p : ℕ) → has_line b p f ≡ true → is_there b p ≡ true) → (n : Node) → is_live b n ≡ true → Some (told b n) ≡ Some (own_value b n (λ m. Some (told b m)))
  own_told distinct there (node.Line f p) l = refl
  own_told distinct there (node.Bonus f) l = ap (λ table. Some (value.Bonus (if is_finished b.matches f then with_bonus table else [])))
      (sym (took_part_is (λ p. worth_in (Some (told b (node.Line f p)))) (lines_of b.matches f)
      (λ row a. ap (λ o. option_map_or (worth_of b.profile (position_in b.players row.0)) o no_worth) (row_found (lines_of b.matches f) row (distinct f) a))))
  own_told distinct there (node.PlayerGw p g) l = ap (λ figures. Some (value.PlayerGw figures)) (sym (gameweek_told p distinct g))
  own_told distinct there (node.TeamGw e g) l = ap (λ figures. Some (value.TeamGw (score_of (b.team e g) figures (ended b g) (b.cost e g))))
      (sym (λ i. map (λ pick. figures_told distinct there pick.player g i) (b.team e g).picks))
  own_told distinct there (node.Total e s) l = ap (λ points. Some (value.Total points))
      (counted_total (λ g. (gameweek_score b e g).net) s b.calendar.locked (nat_le 1 e && nat_le e b.entries) (b.first e)
      (first_true (nat_le 1 e && nat_le e b.entries) (option_map_or (λ first. nat_le first b.calendar.locked) (b.first e) false) (total_alive b e s l).0))
  own_told distinct there (node.Average k g) l = refl
  own_told distinct there (node.Match k g i) l =
      ap (λ points. Some (value.Match (net_told b (slice_index (order_in b.leagues k) i) g, points))) (against k g (opponent_in b k g i))
  own_told distinct there (node.HeadRow k e) l = ap (λ score. Some (value.HeadRow score)) (head_is_told k e)
  own_told distinct there (node.Tie c r i) l = ap (λ entry. Some (value.Tie entry)) (tie_is_told c r i l)

  -- a line of a season
  pub line_told : IsSeason b → (f : ℕ) (row : ℕ × Line) → Among (lines_of b.matches f) row → IsLineTold b f row
  line_told season f row a =
      let distinct = ascending_distinct (lines_of b.matches f) (season.ascending f) in
      let found = row_found (lines_of b.matches f) row distinct a in
      record {
        found = found;
        worth = ap (λ o. option_map_or (worth_of b.profile (position_in b.players row.0)) o no_worth) found;
        bonus = bonus_told f row.0 row.1 distinct found;
      }
