-- When a gameweek has ended, and what a mark touches that ends it.
use Rattle.std.proofs.Common.{◌≡◌, ◌≢◌, ℕ, ◌==◌, nat_le, Bool, true, false, ◌&&◌, ◌||◌, ◌⊎◌, inl, inr, ⊎_elim, List, [], ◌∷◌, Option, None, Some, is_some, refl, sym, ap, ◌∙◌, subst, arith}
use Rattle.std.specs.List.{list_all}
use Rattle.std.specs.Option.{option_map_or}
use Rattle.std.proofs.lemmas.Bool.Decides.{nat_tests}
use Rattle.rule_book.specs.Calendar.{standing, stands_in}
use Rattle.rule_book.specs.MatchFacts.{is_finished}
use Rattle.rule_book.specs.Players.{player_of}
use Rattle.rescore_graph.specs.Graph.{Among}
use Rattle.season_graph.specs.Changes.{EntriesStay, IsKept, IsTouched}
use Rattle.season_nodes.specs.declared.nodes.Node.{Node}
use Rattle.season_nodes.specs.declared.nodes.Node.TheVariants as node
use Rattle.season_nodes.specs.Season.{SeasonFacts, IsSeason, ended, fifteen_of, is_live, is_there}
use Rattle.season_nodes.specs.SeasonLaws.{both_true, first_true, second_true}
use Rattle.season_graph.specs.Touched.{ending_in, ending_nodes, others_finished, team_nodes}
use Rattle.season_nodes.proofs.DependentFacts.{same_test, stands_there, there_stands}
use Rattle.season_graph.proofs.ChangedFacts.{at_node, from_rest, iff_same, place_or_not, same_or_not, to_rest}
use Rattle.season_graph.proofs.GameweekFacts.{numbered_among, from_numbered}
use Rattle.season_graph.proofs.TeamFacts.{team_alive, team_dead, team_kept}

clash : true ≡ false → ⊥
clash e = cc

pub false_or_true : (b : Bool) → (b ≡ false) ⊎ (b ≡ true)
false_or_true true = inr refl
false_or_true false = inl refl

not_true : (b : Bool) → (b ≡ true → ⊥) → b ≡ false
not_true true n = absurd (n refl)
not_true false n = refl

same_number : (m n : ℕ) → (m == n) ≡ true → m ≡ n
same_number m n e = grind (arith, nat_tests)

or_left : (x y : Bool) → x ≡ true → (x || y) ≡ true
or_left true y e = refl
or_left false y e = absurd (clash (sym e))

or_right : (x y : Bool) → y ≡ true → (x || y) ≡ true
or_right true y e = refl
or_right false y e = e

or_pick : (x y : Bool) → (x || y) ≡ true → (x ≡ true → ⊥) → y ≡ true
or_pick true y e n = absurd (n refl)
or_pick false y e n = e

-- a test that holds of each
pub all_from : (t : ℕ → Bool) (xs : List ℕ) → list_all t xs ≡ true → (k : ℕ) → Among xs k → t k ≡ true
all_from t [] y k a = absurd a
all_from t (x ∷ xs) y k (inl e) = subst (λ z. t z ≡ true) e (first_true (t x) (list_all t xs) y)
all_from t (x ∷ xs) y k (inr a) = all_from t xs (second_true (t x) (list_all t xs) y) k a

pub all_to : (t : ℕ → Bool) (xs : List ℕ) → ((k : ℕ) → Among xs k → t k ≡ true) → list_all t xs ≡ true
all_to t [] y = refl
all_to t (x ∷ xs) y = both_true (t x) (list_all t xs) (y x (inl refl)) (all_to t xs (λ k a. y k (inr a)))

module _ (d : SeasonFacts) (f g : ℕ) where
  -- the other fixtures are finished
  pub others_from : others_finished d f g ≡ true → (k : ℕ) → k ≢ f → Among (standing d.calendar g) k → is_finished d.matches k ≡ true
  others_from y k n a = or_pick (k == f) (is_finished d.matches k) (all_from (λ j. (j == f) || is_finished d.matches j) (standing d.calendar g) y k a) (λ e. n (same_number k f e))

  pub others_to : ((k : ℕ) → k ≢ f → Among (standing d.calendar g) k → is_finished d.matches k ≡ true) → others_finished d f g ≡ true
  others_to y = all_to (λ j. (j == f) || is_finished d.matches j) (standing d.calendar g) (λ k a. ⊎_elim
      (λ e. or_left (k == f) (is_finished d.matches k) (same_test k f e))
      (λ n. or_right (k == f) (is_finished d.matches k) (y k n a))
      (same_or_not k f))

  pub ended_others : ended d g ≡ true → others_finished d f g ≡ true
  ended_others y = others_to (λ k n a. all_from (is_finished d.matches) (standing d.calendar g) y k a)

  -- with the others the gameweek has ended exactly where this one is finished, if it stands there
  pub ended_with : others_finished d f g ≡ true → Among (standing d.calendar g) f → ended d g ≡ is_finished d.matches f
  ended_with y a = iff_same (ended d g) (is_finished d.matches f)
      (λ x. all_from (is_finished d.matches) (standing d.calendar g) x f a)
      (λ x. all_to (is_finished d.matches) (standing d.calendar g) (λ k b. ⊎_elim
      (λ e. subst (λ j. is_finished d.matches j ≡ true) (sym e) x)
      (λ n. others_from y k n b)
      (same_or_not k f)))

  -- and without it where it stands elsewhere
  pub ended_without : others_finished d f g ≡ true → (¬ Among (standing d.calendar g) f) → ended d g ≡ true
  ended_without y away = all_to (is_finished d.matches) (standing d.calendar g) (λ k b. others_from y k (λ e. away (subst (λ j. Among (standing d.calendar g) j) e b)) b)

  -- with one that is not finished it has not
  pub unfinished : is_finished d.matches f ≡ false → Among (standing d.calendar g) f → ended d g ≡ false
  unfinished open_ a = not_true (ended d g) (λ y. clash (sym (all_from (is_finished d.matches) (standing d.calendar g) y f a) ∙ open_))

-- the gameweeks of entries that are listed
pub ending_among : (d : SeasonFacts) (f g e : ℕ) (place : Option ℕ) → place ≡ Some g → is_live d (node.TeamGw e g) ≡ true → others_finished d f g ≡ true → Among (ending_nodes d f place) (node.TeamGw e g)
ending_among d f g e place at l y =
    let alive = team_alive d e g l in
    subst (λ o. Among (option_map_or (ending_in d f) o []) (node.TeamGw e g)) (sym at)
    (to_rest (nat_le g d.calendar.locked && others_finished d f g) (team_nodes d g) (node.TeamGw e g)
    (both_true (nat_le g d.calendar.locked) (others_finished d f g) alive.3 y)
    (numbered_among (λ k. node.TeamGw k g ∷ []) d.entries e (node.TeamGw e g) alive.0 alive.1 (inl refl)))

pub from_ending : (d : SeasonFacts) (f : ℕ) (place : Option ℕ) (n : Node) → Among (ending_nodes d f place) n → (g : ℕ) × (e : ℕ) × ((place ≡ Some g) × (others_finished d f g ≡ true) × (node.TeamGw e g ≡ n))
from_ending d f None n a = absurd a
from_ending d f (Some g) n a =
    let r = from_rest (nat_le g d.calendar.locked && others_finished d f g) (team_nodes d g) n a in
    let k = from_numbered (λ e. node.TeamGw e g ∷ []) d.entries n r.1 in
    (g, k.0, (refl, second_true (nat_le g d.calendar.locked) (others_finished d f g) r.0, ⊎_elim (λ e. e) (λ x. absurd x) k.1))

-- a mark that is another, where all other marks are the same
module _ (b d : SeasonFacts) (is_d : IsSeason d) (f : ℕ) (calendar : b.calendar ≡ d.calendar) (players : b.players ≡ d.players) (marks : (k : ℕ) → k ≢ f → is_finished b.matches k ≡ is_finished d.matches k) (stay : EntriesStay b d) where
  back : (g k : ℕ) → Among (standing d.calendar g) k → Among (standing b.calendar g) k
  back g k a = subst (λ c. Among (standing c g) k) (sym calendar) a

  forth : (g k : ℕ) → Among (standing b.calendar g) k → Among (standing d.calendar g) k
  forth g k a = subst (λ c. Among (standing c g) k) calendar a

  others_before : (g : ℕ) → others_finished d f g ≡ true → others_finished b f g ≡ true
  others_before g y = others_to b f g (λ k n a. marks k n ∙ others_from d f g y k n (forth g k a))

  others_after : (g : ℕ) → others_finished b f g ≡ true → others_finished d f g ≡ true
  others_after g y = others_to d f g (λ k n a. sym (marks k n) ∙ others_from b f g y k n (back g k a))

  not_ended : (g : ℕ) → others_finished d f g ≡ false → ended b g ≡ ended d g
  not_ended g open_ = iff_same (ended b g) (ended d g)
      (λ y. absurd (clash (sym (others_after g (ended_others b f g y)) ∙ open_)))
      (λ y. absurd (clash (sym (ended_others d f g y) ∙ open_)))

  other : (g k : ℕ) → stands_in d.calendar f ≢ Some g → Among (standing d.calendar g) k → k ≢ f
  other g k n a e = n (stands_there d.calendar.fixtures f g is_d.calendar.ids_rise (subst (λ j. Among (standing d.calendar g) j) e a))

  elsewhere : (g : ℕ) → stands_in d.calendar f ≢ Some g → ended b g ≡ ended d g
  elsewhere g n = iff_same (ended b g) (ended d g)
      (λ y. all_to (is_finished d.matches) (standing d.calendar g) (λ k a. sym (marks k (other g k n a)) ∙ all_from (is_finished b.matches) (standing b.calendar g) y k (back g k a)))
      (λ y. all_to (is_finished b.matches) (standing b.calendar g) (λ k a. marks k (other g k n (forth g k a)) ∙ all_from (is_finished d.matches) (standing d.calendar g) y k (forth g k a)))

  locks : (g : ℕ) → nat_le g b.calendar.locked ≡ nat_le g d.calendar.locked
  locks g = λ i. nat_le g (calendar i).locked

  there : (e g q : ℕ) → Among (fifteen_of d e g) q → is_there b q ≡ is_there d q
  there e g q a = ap (λ ps. is_some (player_of ps q)) players

  pub ending_listed : (e g : ℕ) → IsKept b d (node.TeamGw e g) ⊎ Among (ending_nodes d f (stands_in d.calendar f)) (node.TeamGw e g)
  ending_listed e g = ⊎_elim
      (λ open_. inl (team_dead b d stay e g (locks g) open_))
      (λ l. ⊎_elim
      (λ at. ⊎_elim
      (λ open_. inl (team_kept b d stay e g (locks g) (not_ended g open_) (there e g)))
      (λ y. inr (ending_among d f g e (stands_in d.calendar f) at l y))
      (false_or_true (others_finished d f g)))
      (λ n. inl (team_kept b d stay e g (locks g) (elsewhere g n) (there e g)))
      (place_or_not (stands_in d.calendar f) g))
      (false_or_true (is_live d (node.TeamGw e g)))

  pub ending_touched : is_finished b.matches f ≢ is_finished d.matches f → (n : Node) → Among (ending_nodes d f (stands_in d.calendar f)) n → is_live d n ≡ true → IsTouched b d n
  ending_touched differs n a l =
      let r = from_ending d f (stands_in d.calendar f) n a in
      let at : Among (standing d.calendar r.0) f = there_stands d.calendar.fixtures f r.0 r.2.0 in
      at_node b d (node.TeamGw r.1 r.0) n r.2.2 l (λ k live.
      differs (sym (ended_with b f r.0 (others_before r.0 r.2.1) (back r.0 f at)) ∙ (k live).2 ∙ ended_with d f r.0 r.2.1 at))
