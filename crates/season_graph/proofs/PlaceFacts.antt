-- What a fixture touches that stands in another gameweek.
use Rattle.std.proofs.Common.{◌≡◌, ◌≢◌, ℕ, ◌<◌, Bool, true, false, ◌&&◌, cond, nat_le, ◌⊎◌, inl, inr, ⊎_elim, List, [], ◌∷◌, ◌++◌, Option, Some, is_some, map, refl, sym, ◌∙◌, ap, subst}
use Rattle.std.specs.List.{AllPairs, filter}
use Rattle.rule_book.specs.declared.season.Fixture.{Fixture}
use Rattle.rule_book.specs.Calendar.{is_gameweek, standing, standing_among, stands_in}
use Rattle.rule_book.specs.MatchFacts.{is_finished, line_of, lines_of}
use Rattle.rule_book.specs.PlayerFigures.{position_in}
use Rattle.rule_book.specs.Players.{player_of}
use Rattle.rescore_graph.specs.Graph.{Among}
use Rattle.rescore_graph.specs.States.{State}
use Rattle.season_graph.specs.Changes.{IsKept, IsTouched, DifferInPlace, Follows, MarksTouched}
use Rattle.season_nodes.specs.Brackets.{bracket_in}
use Rattle.season_nodes.specs.declared.nodes.Node.{Node}
use Rattle.season_nodes.specs.declared.nodes.Node.TheVariants as node
use Rattle.season_nodes.specs.declared.nodes.Value.{Value}
use Rattle.season_nodes.specs.Reading.{among_either, among_left, among_right, from_filter, from_map, to_filter, from_flat, to_flat}
use Rattle.season_graph.specs.Refreshed.{Refreshed}
use Rattle.season_nodes.specs.Season.{SeasonFacts, IsSeason, Rising, ended, fifteen_of, fixtures_of, has_line, is_live, is_there, players_of}
use Rattle.season_nodes.specs.SeasonLaws.{has_listed, listed_has}
use Rattle.season_graph.specs.Touched.{ending_nodes, gameweek_beside, moved_endings, moved_nodes, moved_players, others_finished}
use Rattle.season_graph.proofs.ChangedFacts.{at_node, beside_at, change_exact, change_sound, from_beside, iff_same, place_or_not, same_or_not}
use Rattle.season_graph.proofs.EndingFacts.{all_from, all_to, ended_others, ended_without, ending_among, false_or_true, from_ending, others_from, others_to, unfinished}
use Rattle.season_graph.proofs.RoundFacts.{average_stays, match_stays, row_stays}
use Rattle.season_graph.proofs.CupFacts.{tie_stays}
use Rattle.season_graph.proofs.TeamFacts.{team_dead, team_kept, total_kept}
use Rattle.season_nodes.proofs.RisingFacts.{rising_filter, rising_same}
use Rattle.season_nodes.proofs.DependentFacts.{rising_head, rising_tail, stands_there, there_stands}

clash : true ≡ false → ⊥
clash e = cc

from_else : (t : Bool) (rest : List Node) (n : Node) → Among (cond t [] rest) n → (t ≡ false) × Among rest n
from_else true rest n a = absurd a
from_else false rest n a = (refl, a)

-- the fixtures of a gameweek rise
ids_low : (x : Fixture) (xs : List Fixture) → AllPairs (λ y z. y.id < z.id) (x ∷ xs) → (g k : ℕ) → Among (standing_among xs g) k → x.id < k
ids_low x xs up g k a =
    let r = from_map (λ y. y.id) (filter (λ y. is_gameweek g y.gw) xs) k a in
    subst (λ n. x.id < n) r.1.1 (rising_head x xs r.0 up (from_filter (λ y. is_gameweek g y.gw) xs r.0 r.1.0).0)

standing_case : (t : Bool) (x : Fixture) (ys : List Fixture) → ((k : ℕ) → Among (map (λ y. y.id) ys) k → x.id < k) → Rising (map (λ y. y.id) ys) → Rising (map (λ y. y.id) (cond t (x ∷ ys) ys))
standing_case true x ys low up = (low, up)
standing_case false x ys low up = up

pub standing_rises : (xs : List Fixture) (g : ℕ) → AllPairs (λ y z. y.id < z.id) xs → Rising (standing_among xs g)
standing_rises [] g up = tt
standing_rises (x ∷ xs) g up = standing_case (is_gameweek g x.gw) x (filter (λ y. is_gameweek g y.gw) xs) (ids_low x xs up g) (standing_rises xs g (rising_tail x xs up))

module _ (b d : SeasonFacts) (is_b : IsSeason b) (is_d : IsSeason d) (f : ℕ) (c : DifferInPlace b d f) where
  abbrev beside : ℕ → List Node
  beside p = gameweek_beside p (stands_in b.calendar f) ++ gameweek_beside p (stands_in d.calendar f)

  abbrev players : List Node
  players = moved_players d f (stands_in b.calendar f) (stands_in d.calendar f)

  abbrev endings : List Node
  endings = moved_endings d f (stands_in b.calendar f) (stands_in d.calendar f)

  abbrev both_endings : List Node
  both_endings = ending_nodes d f (stands_in b.calendar f) ++ ending_nodes d f (stands_in d.calendar f)

  abbrev moved : List Node
  moved = moved_nodes d f (stands_in b.calendar f) (stands_in d.calendar f)

  live_same : (q g : ℕ) → is_live b (node.PlayerGw q g) ≡ is_live d (node.PlayerGw q g)
  live_same q g = λ i. is_some (player_of (c.players i) q) && (nat_le 1 g && nat_le g (c.locked i))

  same_place : (k : ℕ) → (k ≡ f → stands_in b.calendar f ≡ stands_in d.calendar f) → stands_in b.calendar k ≡ stands_in d.calendar k
  same_place k there = ⊎_elim (λ e. subst (λ x. stands_in b.calendar x ≡ stands_in d.calendar x) (sym e) (there e)) (c.others k) (same_or_not k f)

  line_same : (q k : ℕ) → has_line b q k ≡ has_line d q k
  line_same q k = ap (λ m. is_some (line_of m k q)) c.matches

  -- a fixture that stands in a gameweek before, and is not this one in it, stands there after
  goes : (q g k : ℕ) → has_line b q k ≡ true → (k ≡ f → stands_in b.calendar f ≡ stands_in d.calendar f) → Among (standing b.calendar g) k → Among (fixtures_of d q g) k
  goes q g k h there a = to_filter (has_line d q) (standing d.calendar g) k
      (there_stands d.calendar.fixtures k g (sym (same_place k there) ∙ stands_there b.calendar.fixtures k g is_b.calendar.ids_rise a)) (sym (line_same q k) ∙ h)

  comes : (q g k : ℕ) → has_line d q k ≡ true → (k ≡ f → stands_in b.calendar f ≡ stands_in d.calendar f) → Among (standing d.calendar g) k → Among (fixtures_of b q g) k
  comes q g k h there a = to_filter (has_line b q) (standing b.calendar g) k
      (there_stands b.calendar.fixtures k g (same_place k there ∙ stands_there d.calendar.fixtures k g is_d.calendar.ids_rise a)) (line_same q k ∙ h)

  fixtures_same : (q g : ℕ) → ((k : ℕ) → Among (standing b.calendar g) k → has_line b q k ≡ true → k ≢ f) → ((k : ℕ) → Among (standing d.calendar g) k → has_line d q k ≡ true → k ≢ f) → fixtures_of b q g ≡ fixtures_of d q g
  fixtures_same q g n m = rising_same (fixtures_of b q g) (fixtures_of d q g)
      (rising_filter (has_line b q) (standing b.calendar g) (standing_rises b.calendar.fixtures g is_b.calendar.ids_rise))
      (rising_filter (has_line d q) (standing d.calendar g) (standing_rises d.calendar.fixtures g is_d.calendar.ids_rise))
      (λ k a. let r = from_filter (has_line b q) (standing b.calendar g) k a in goes q g k r.1 (λ e. absurd (n k r.0 r.1 e)) r.0)
      (λ k a. let r = from_filter (has_line d q) (standing d.calendar g) k a in comes q g k r.1 (λ e. absurd (m k r.0 r.1 e)) r.0)

  neither : (q g : ℕ) → stands_in b.calendar f ≢ Some g → stands_in d.calendar f ≢ Some g → fixtures_of b q g ≡ fixtures_of d q g
  neither q g n m = fixtures_same q g
      (λ k a h i. n (stands_there b.calendar.fixtures f g is_b.calendar.ids_rise (subst (λ x. Among (standing b.calendar g) x) i a)))
      (λ k a h i. m (stands_there d.calendar.fixtures f g is_d.calendar.ids_rise (subst (λ x. Among (standing d.calendar g) x) i a)))

  absent : (q g : ℕ) → has_line b q f ≡ false → fixtures_of b q g ≡ fixtures_of d q g
  absent q g e = fixtures_same q g
      (λ k a h i. clash (sym h ∙ ap (has_line b q) i ∙ e))
      (λ k a h i. clash (sym h ∙ ap (has_line d q) i ∙ sym (line_same q f) ∙ e))

  listed : (q g : ℕ) → has_line b q f ≡ true → Among (beside q) (node.PlayerGw q g) → Among moved (node.PlayerGw q g)
  listed q g e a = among_left players endings (node.PlayerGw q g) (to_flat beside (players_of d f) q (node.PlayerGw q g) (has_listed (lines_of d.matches f) q (sym (line_same q f) ∙ e)) a)

  finished_same : (k : ℕ) → is_finished b.matches k ≡ is_finished d.matches k
  finished_same k = ap (λ m. is_finished m k) c.matches

  in_both : (g k : ℕ) → k ≢ f → Among (standing b.calendar g) k → Among (standing d.calendar g) k
  in_both g k n a = there_stands d.calendar.fixtures k g (sym (c.others k n) ∙ stands_there b.calendar.fixtures k g is_b.calendar.ids_rise a)

  in_back : (g k : ℕ) → k ≢ f → Among (standing d.calendar g) k → Among (standing b.calendar g) k
  in_back g k n a = there_stands b.calendar.fixtures k g (c.others k n ∙ stands_there d.calendar.fixtures k g is_d.calendar.ids_rise a)

  others_before : (g : ℕ) → others_finished d f g ≡ true → others_finished b f g ≡ true
  others_before g y = others_to b f g (λ k n a. finished_same k ∙ others_from d f g y k n (in_both g k n a))

  others_after : (g : ℕ) → others_finished b f g ≡ true → others_finished d f g ≡ true
  others_after g y = others_to d f g (λ k n a. sym (finished_same k) ∙ others_from b f g y k n (in_back g k n a))

  not_ended : (g : ℕ) → others_finished d f g ≡ false → ended b g ≡ ended d g
  not_ended g open_ = iff_same (ended b g) (ended d g)
      (λ y. absurd (clash (sym (others_after g (ended_others b f g y)) ∙ open_)))
      (λ y. absurd (clash (sym (ended_others d f g y) ∙ open_)))

  -- a gameweek in which the fixture stands in neither, or which it does not hold up
  ended_alike : (g : ℕ) → (Among (standing b.calendar g) f → is_finished d.matches f ≡ true) → (Among (standing d.calendar g) f → is_finished d.matches f ≡ true) → ended b g ≡ ended d g
  ended_alike g stood stands = iff_same (ended b g) (ended d g)
      (λ y. all_to (is_finished d.matches) (standing d.calendar g) (λ k a. ⊎_elim
      (λ e. subst (λ j. is_finished d.matches j ≡ true) (sym e) (stands (subst (λ j. Among (standing d.calendar g) j) e a)))
      (λ n. sym (finished_same k) ∙ all_from (is_finished b.matches) (standing b.calendar g) y k (in_back g k n a))
      (same_or_not k f)))
      (λ y. all_to (is_finished b.matches) (standing b.calendar g) (λ k a. finished_same k ∙ ⊎_elim
      (λ e. subst (λ j. is_finished d.matches j ≡ true) (sym e) (stood (subst (λ j. Among (standing b.calendar g) j) e a)))
      (λ n. all_from (is_finished d.matches) (standing d.calendar g) y k (in_both g k n a))
      (same_or_not k f)))

  locks : (g : ℕ) → nat_le g b.calendar.locked ≡ nat_le g d.calendar.locked
  locks g = ap (nat_le g) c.locked

  there : (g e q : ℕ) → Among (fifteen_of d e g) q → is_there b q ≡ is_there d q
  there g e q a = ap (λ ps. is_some (player_of ps q)) c.players

  in_endings : (n : Node) → is_finished d.matches f ≡ false → Among both_endings n → Among moved n
  in_endings n still a = among_right players endings n (subst (λ t. Among (cond t [] both_endings) n) (sym still) a)

  -- one that has not ended but for this fixture
  held_up : (e g : ℕ) → is_live d (node.TeamGw e g) ≡ true → others_finished d f g ≡ true → is_finished d.matches f ≡ false → IsKept b d (node.TeamGw e g) ⊎ Among moved (node.TeamGw e g)
  held_up e g l y still = ⊎_elim
      (λ i. inr (in_endings (node.TeamGw e g) still (among_left (ending_nodes d f (stands_in b.calendar f)) (ending_nodes d f (stands_in d.calendar f)) (node.TeamGw e g) (ending_among d f g e (stands_in b.calendar f) i l y))))
      (λ n. ⊎_elim
      (λ i. inr (in_endings (node.TeamGw e g) still (among_right (ending_nodes d f (stands_in b.calendar f)) (ending_nodes d f (stands_in d.calendar f)) (node.TeamGw e g) (ending_among d f g e (stands_in d.calendar f) i l y))))
      (λ m. inl (team_kept b d c.entries e g (locks g) (ended_alike g
      (λ a. absurd (n (stands_there b.calendar.fixtures f g is_b.calendar.ids_rise a)))
      (λ a. absurd (m (stands_there d.calendar.fixtures f g is_d.calendar.ids_rise a)))) (there g e)))
      (place_or_not (stands_in d.calendar f) g))
      (place_or_not (stands_in b.calendar f) g)

  team_listed : (e g : ℕ) → IsKept b d (node.TeamGw e g) ⊎ Among moved (node.TeamGw e g)
  team_listed e g = ⊎_elim
      (λ open_. inl (team_dead b d c.entries e g (locks g) open_))
      (λ l. ⊎_elim
      (λ open_. inl (team_kept b d c.entries e g (locks g) (not_ended g open_) (there g e)))
      (λ y. ⊎_elim
      (λ still. held_up e g l y still)
      (λ done. inl (team_kept b d c.entries e g (locks g) (ended_alike g (λ a. done) (λ a. done)) (there g e)))
      (false_or_true (is_finished d.matches f)))
      (false_or_true (others_finished d f g)))
      (false_or_true (is_live d (node.TeamGw e g)))

  pub place_listed : (n : Node) → IsKept b d n ⊎ Among moved n
  place_listed (node.Line k q) = inl (line_same q k, λ l. (ap (λ m. line_of m k q) c.matches, c.profile, ap (λ ps. position_in ps q) c.players))
  place_listed (node.Bonus k) = inl (ap (λ m. is_live (record b { matches = m }) (node.Bonus k)) c.matches, λ l. (ap (λ m. players_of (record b { matches = m }) k) c.matches, ap (λ m. is_finished m k) c.matches))
  place_listed (node.PlayerGw q g) = ⊎_elim
      (λ e. inl (live_same q g, λ l. absent q g e))
      (λ e. ⊎_elim
      (λ i. inr (listed q g e (among_left (gameweek_beside q (stands_in b.calendar f)) (gameweek_beside q (stands_in d.calendar f)) (node.PlayerGw q g) (beside_at q g (stands_in b.calendar f) i))))
      (λ n. ⊎_elim
      (λ i. inr (listed q g e (among_right (gameweek_beside q (stands_in b.calendar f)) (gameweek_beside q (stands_in d.calendar f)) (node.PlayerGw q g) (beside_at q g (stands_in d.calendar f) i))))
      (λ m. inl (live_same q g, λ l. neither q g n m))
      (place_or_not (stands_in d.calendar f) g))
      (place_or_not (stands_in b.calendar f) g))
      (false_or_true (has_line b q f))
  place_listed (node.TeamGw e g) = team_listed e g
  place_listed (node.Total e s) = inl (total_kept b d c.entries c.locked c.leagues e s)
  place_listed (node.Average l g) = inl (average_stays b d c.entries c.locked c.leagues l g)
  place_listed (node.Match l g i) = inl (match_stays b d c.entries c.locked c.leagues l g i)
  place_listed (node.HeadRow l e) = inl (row_stays b d c.entries c.locked c.leagues l e)
  place_listed (node.Tie k r i) = inl (tie_stays b d c.entries c.locked k (λ x. bracket_in (c.cups x) k) r i)

  stays_there : (q g : ℕ) → has_line d q f ≡ true → fixtures_of b q g ≡ fixtures_of d q g → stands_in b.calendar f ≡ Some g → stands_in d.calendar f ≡ Some g
  stays_there q g h e i = stands_there d.calendar.fixtures f g is_d.calendar.ids_rise (from_filter (has_line d q) (standing d.calendar g) f
      (subst (λ xs. Among xs f) e (to_filter (has_line b q) (standing b.calendar g) f (there_stands b.calendar.fixtures f g i) (line_same q f ∙ h)))).0

  stood_there : (q g : ℕ) → has_line d q f ≡ true → fixtures_of b q g ≡ fixtures_of d q g → stands_in d.calendar f ≡ Some g → stands_in b.calendar f ≡ Some g
  stood_there q g h e i = stands_there b.calendar.fixtures f g is_b.calendar.ids_rise (from_filter (has_line b q) (standing b.calendar g) f
      (subst (λ xs. Among xs f) (sym e) (to_filter (has_line d q) (standing d.calendar g) f (there_stands d.calendar.fixtures f g i) h))).0

  -- the gameweeks that end without it, or no longer with it
  endings_touched : stands_in b.calendar f ≢ stands_in d.calendar f → (n : Node) → Among endings n → is_live d n ≡ true → IsTouched b d n
  endings_touched differs n a l =
      let r = from_else (is_finished d.matches f) both_endings n a in
      ⊎_elim
      (λ x. let y = from_ending d f (stands_in b.calendar f) n x in
      let at : Among (standing b.calendar y.0) f = there_stands b.calendar.fixtures f y.0 y.2.0 in
      let gone : ¬ Among (standing d.calendar y.0) f = λ z. differs (y.2.0 ∙ sym (stands_there d.calendar.fixtures f y.0 is_d.calendar.ids_rise z)) in
      at_node b d (node.TeamGw y.1 y.0) n y.2.2 l (λ k live. clash (sym (ended_without d f y.0 y.2.1 gone) ∙ sym (k live).2 ∙ unfinished b f y.0 (finished_same f ∙ r.0) at)))
      (λ x. let y = from_ending d f (stands_in d.calendar f) n x in
      let at : Among (standing d.calendar y.0) f = there_stands d.calendar.fixtures f y.0 y.2.0 in
      let away : ¬ Among (standing b.calendar y.0) f = λ z. differs (stands_there b.calendar.fixtures f y.0 is_b.calendar.ids_rise z ∙ sym y.2.0) in
      at_node b d (node.TeamGw y.1 y.0) n y.2.2 l (λ k live. clash (sym (ended_without b f y.0 (others_before y.0 y.2.1) away) ∙ (k live).2 ∙ unfinished d f y.0 r.0 at)))
      (among_either (ending_nodes d f (stands_in b.calendar f)) (ending_nodes d f (stands_in d.calendar f)) n r.1)

  pub place_touched : stands_in b.calendar f ≢ stands_in d.calendar f → (n : Node) → Among moved n → is_live d n ≡ true → IsTouched b d n
  place_touched differs n a l = ⊎_elim (λ x. pick (from_flat beside (players_of d f) n x)) (λ x. endings_touched differs n x l) (among_either players endings n a)
    where
      pick : (q : ℕ) × (Among (players_of d f) q × Among (beside q) n) → IsTouched b d n
      pick r =
          let h : has_line d r.0 f ≡ true = listed_has (lines_of d.matches f) r.0 r.1.0 in (
            l,
            λ k. ⊎_elim
                (λ x. let y = from_beside r.0 (stands_in b.calendar f) n x in
                let i : fixtures_of b r.0 y.0 ≡ fixtures_of d r.0 y.0 = (subst (λ z. IsKept b d z) (sym y.1.1) k).1 (subst (λ z. is_live d z ≡ true) (sym y.1.1) l) in
                differs (y.1.0 ∙ sym (stays_there r.0 y.0 h i y.1.0)))
                (λ x. let y = from_beside r.0 (stands_in d.calendar f) n x in
                let i : fixtures_of b r.0 y.0 ≡ fixtures_of d r.0 y.0 = (subst (λ z. IsKept b d z) (sym y.1.1) k).1 (subst (λ z. is_live d z ≡ true) (sym y.1.1) l) in
                differs (stood_there r.0 y.0 h i y.1.0 ∙ sym y.1.0))
                (among_either (gameweek_beside r.0 (stands_in b.calendar f)) (gameweek_beside r.0 (stands_in d.calendar f)) n r.1.1),
          )

  -- the cells follow
  module _ (s t : State Node Value) (from to : Option ℕ) (i : from ≡ stands_in b.calendar f) (j : to ≡ stands_in d.calendar f) (r : Refreshed (is_live d) (Among (moved_nodes d f from to)) s t) where
    placed : Refreshed (is_live d) (Among moved) s t
    placed = subst (λ x. Refreshed (is_live d) (Among (moved_nodes d f (stands_in b.calendar f) x)) s t) j (subst (λ x. Refreshed (is_live d) (Among (moved_nodes d f x to)) s t) i r)

    pub place_follows : Follows b d s t
    place_follows sound = change_sound b d is_b is_d moved place_listed s t sound placed

    pub place_marks : from ≢ to → MarksTouched b d s t
    place_marks differs sound = change_exact b d is_b is_d moved place_listed s t sound placed (place_touched (λ e. differs (i ∙ e ∙ sym j)))
