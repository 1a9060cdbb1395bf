-- What one change of the facts touches, and that it leaves everything else as it was.
use Rattle.std.proofs.Common.{◌≡◌, ◌≢◌, ℕ, ◌-◌, ◌==◌, Bool, true, false, not, ◌&&◌, cond, if◌then◌else◌, nat_le, ◌⊎◌, inl, inr, ⊎_elim, ◌↔◌, List, [], ◌∷◌, Option, Some, None, is_some, length, map, nat_lt, refl, sym, ◌∙◌, ap, ap₂, subst, arith}
use Rattle.std.specs.Bool.{beq}
use Rattle.std.specs.Cmp.{booleans_Decides}
use Rattle.std.specs.List.{filter, flat_map, list_any}
use Rattle.std.specs.Option.{option_map, option_map_or, unwrap_or}
use Rattle.std.proofs.lemmas.Bool.Decides.{nat_tests}
use Rattle.std.proofs.lemmas.List.{length-map}
use Rattle.std.proofs.lemmas.Option.{same_Some}
use Rattle.rule_book.specs.ById.{at_id}
use Rattle.rule_book.specs.declared.team.Team.{Team}
use Rattle.rule_book.specs.Calendar.{has_ended, standing, stands_in}
use Rattle.rule_book.specs.HeadToHead.{head_score, total_of}
use Rattle.rule_book.specs.LeagueRows.{place_of}
use Rattle.rule_book.specs.MatchFacts.{line_of, lines_of}
use Rattle.rule_book.specs.PlayerFigures.{position_in}
use Rattle.rule_book.specs.Players.{player_of}
use Rattle.rule_book.specs.ScoreOfTeam.{score_of}
use Rattle.rescore_graph.specs.declared.cells.Slot.{Slot}
use Rattle.rescore_graph.specs.Graph.{Among}
use Rattle.rescore_graph.specs.States.{State, is_dirty, IsDirty}
use Rattle.rescore_graph.specs.Settling.{Sound, SoundBut}
use Rattle.rescore_graph.proofs.ChangeFacts.{Untouched, sound_start}
use Rattle.season_graph.specs.Changes.{IsSame, IsKept, IsTouched, DifferInLine, Follows, MarksTouched}
use Rattle.season_nodes.specs.Brackets.{bracket_in}
use Rattle.season_nodes.specs.declared.nodes.Node.{Node}
use Rattle.season_nodes.specs.declared.nodes.Node.TheVariants as node
use Rattle.season_nodes.specs.declared.nodes.Value.{Value}
use Rattle.season_nodes.specs.declared.nodes.Value.TheVariants as value
use Rattle.season_nodes.specs.Reading.{filter_local, from_filter, map_local, to_filter, to_map}
use Rattle.season_graph.specs.Refreshed.{Refreshed}
use Rattle.season_nodes.specs.Season.{SeasonFacts, IsSeason, fielded_in, fifteen_of, figures_held, figures_of_fifteen, has_line, is_there, net_held, no_figures, scores_held, seen_from, players_of, fixtures_of, is_live, season_graph, worth_of, no_worth, worth_in, bonuses_in, with_bonus, took_part, gathered}
use Rattle.season_nodes.specs.Rounds.{lower, met}
use Rattle.season_nodes.specs.SeasonLaws.{match_alive, season_lawful}
use Rattle.season_graph.specs.Touched.{is_other, gameweek_beside, line_nodes}
use Rattle.season_nodes.proofs.DependentFacts.{stands_there, there_stands}
use Rattle.season_nodes.proofs.Lists.{listed_test}
use Rattle.season_graph.proofs.RefreshedFacts.{refreshed_listed, refreshed_sound, refreshed_exact}
use Rattle.season_graph.proofs.RoundFacts.{average_alike, average_reads, average_stays, match_alike, match_reads, match_stays, row_stays}
use Rattle.season_graph.proofs.CupFacts.{tie_alike, tie_reads, tie_stays}
use Rattle.season_graph.proofs.TeamFacts.{team_kept, total_kept}
use Rattle.season_nodes.proofs.RisingFacts.{players_same}

clash : true ≡ false → ⊥
clash e = cc

some_map : {X Y : Type 0} (f : X → Y) (o : Option X) → is_some (option_map f o) ≡ is_some o
some_map f None = refl
some_map f (Some x) = refl

-- a count is told exactly of a node that has a cell
pub counted_some : {V : Type 0} (o : Option ℕ) (cell : Option (Slot V)) → o ≡ option_map (λ s. s.count) cell → is_some o ≡ is_some cell
counted_some o cell e = ap is_some e ∙ some_map (λ s. s.count) cell

beq_same : (x : Bool) → not (beq x x) ≡ false
beq_same x = ap not ((booleans_Decides x x).1 refl)

beq_other : (x y b : Bool) → beq x y ≡ b → x ≢ y → not (beq x y) ≡ true
beq_other x y true e n = absurd (n ((booleans_Decides x y).0 e))
beq_other x y false e n = ap not e

not_beq : (x y : Bool) → not (beq x y) ≡ is_other x y
not_beq true true = beq_same true
not_beq true false = beq_other true false (beq true false) refl (λ e. cc)
not_beq false true = beq_other false true (beq false true) refl (λ e. cc)
not_beq false false = beq_same false

pub chosen_case : (b had has was here : Bool) → had ≡ was → has ≡ here → not (beq had has) ≡ b → b ≡ is_other was here
chosen_case b had has was here e d k = sym k ∙ not_beq had has ∙ ap₂ is_other e d

-- the nodes of a line, by whether it was there
pub line_chosen : {V : Type 0} (live : Node → Bool) (line : Node) (rest : List Node) (s t : State Node V) (b had has here : Bool) → had ≡ is_some (s line) → has ≡ here → not (beq had has) ≡ b
    → Refreshed live (Among (line ∷ cond b rest [])) s t → Refreshed live (Among (line ∷ cond (is_other (is_some (s line)) here) rest [])) s t
line_chosen live line rest s t b had has here e d k r =
    refreshed_listed live (line ∷ cond b rest []) (line ∷ cond (is_other (is_some (s line)) here) rest []) s t
    (ap (λ c. line ∷ cond c rest []) (chosen_case b had has (is_some (s line)) here e d k)) r

eqb_case : (m n : ℕ) (b : Bool) → (m == n) ≡ b → (m ≡ n) ⊎ (m ≢ n)
eqb_case m n true e = inl (grind (arith, nat_tests, e))
eqb_case m n false e = inr (λ i. grind (arith, nat_tests, e, i))

pub same_or_not : (m n : ℕ) → (m ≡ n) ⊎ (m ≢ n)
same_or_not m n = eqb_case m n (m == n) refl

pub among_or_not : (ps : List ℕ) (q : ℕ) → Among ps q ⊎ (¬ Among ps q)
among_or_not [] q = inr (λ a. a)
among_or_not (p ∷ ps) q = ⊎_elim (λ e. inl (inl e)) (λ n. ⊎_elim (λ a. inl (inr a)) (λ m. inr (λ o. ⊎_elim n m o)) (among_or_not ps q)) (same_or_not p q)

pub both_or_other : (k q f p : ℕ) → ((k ≡ f) × (q ≡ p)) ⊎ ((k ≢ f) ⊎ (q ≢ p))
both_or_other k q f p = ⊎_elim (λ e. ⊎_elim (λ d. inl (e, d)) (λ n. inr (inr n)) (same_or_not q p)) (λ n. inr (inl n)) (same_or_not k f)

pub bool_case : (b c : Bool) → (b ≡ c) ⊎ (is_other b c ≡ true)
bool_case true true = inl refl
bool_case true false = inr refl
bool_case false true = inr refl
bool_case false false = inl refl

pub iff_same : (x y : Bool) → (x ≡ true → y ≡ true) → (y ≡ true → x ≡ true) → x ≡ y
iff_same true true there back = refl
iff_same true false there back = absurd (clash (sym (there refl)))
iff_same false true there back = absurd (clash (sym (back refl)))
iff_same false false there back = refl

module _ (b d : SeasonFacts) where
  pub some_lines : (f : ℕ) → players_of b f ≡ players_of d f → is_live b (node.Bonus f) ≡ is_live d (node.Bonus f)
  some_lines f e = ap (nat_lt 0) (sym (length-map (lines_of b.matches f) (λ row. row.0)) ∙ ap length e ∙ length-map (lines_of d.matches f) (λ row. row.0))

  line_same : (f p : ℕ) → line_of b.matches f p ≡ line_of d.matches f p → b.profile ≡ d.profile → position_in b.players p ≡ position_in d.players p
      → value.Line (option_map_or (worth_of b.profile (position_in b.players p)) (line_of b.matches f p) no_worth) ≡ value.Line (option_map_or (worth_of d.profile (position_in d.players p)) (line_of d.matches f p) no_worth)
  line_same f p e u v = λ i. value.Line (option_map_or (worth_of (u i) (v i)) (e i) no_worth)

  -- where the same team has the same players who are there, each is there who was
  there_alike : (e g : ℕ) → b.team e g ≡ d.team e g → fielded_in b e g ≡ fielded_in d e g → (p : ℕ) → Among (fifteen_of b e g) p → is_there b p ≡ is_there d p
  there_alike e g same fielded p a = iff_same (is_there b p) (is_there d p)
      (λ y. (from_filter (is_there d) (fifteen_of d e g) p (subst (λ ps. Among ps p) fielded (to_filter (is_there b) (fifteen_of b e g) p a y))).1)
      (λ y. (from_filter (is_there b) (fifteen_of b e g) p (subst (λ ps. Among ps p) (sym fielded)
      (to_filter (is_there d) (fifteen_of d e g) p (subst (λ (t : Team). Among (map (λ pick. pick.player) t.picks) p) same a) y))).1)

  -- so the same is told of its players
  figures_alike : (v : Node → Option Value) (e g : ℕ) → b.team e g ≡ d.team e g → fielded_in b e g ≡ fielded_in d e g
      → figures_of_fifteen b v (b.team e g) g ≡ figures_of_fifteen d v (d.team e g) g
  figures_alike v e g same fielded =
      map_local (λ pick. if is_there b pick.player then figures_held (v (node.PlayerGw pick.player g)) else no_figures)
      (λ pick. if is_there d pick.player then figures_held (v (node.PlayerGw pick.player g)) else no_figures) (b.team e g).picks
      (λ pick a. ap (λ t. if t then figures_held (v (node.PlayerGw pick.player g)) else no_figures)
      (there_alike e g same fielded pick.player (to_map (λ x. x.player) (b.team e g).picks pick a)))
      ∙ ap (λ (t : Team). figures_of_fifteen d v t g) same

  -- what is kept has its inputs and its own function
  pub kept_untouched : (s : State Node Value) (n : Node) → IsKept b d n → is_live d n ≡ true → Untouched (season_graph b) (season_graph d) s s n
  kept_untouched s (node.Line f p) k l = record {
    live = k.0 ∙ l;
    cell = refl;
    inputs = λ m a. a;
    own = λ v. sym (line_same f p (k.1 l).0 (k.1 l).1 (k.1 l).2);
    values = λ m a. refl;
  }
  kept_untouched s (node.Bonus f) k l = record {
    live = k.0 ∙ l;
    cell = refl;
    inputs = λ m a. subst (λ ps. Among (map (node.Line f) ps) m) (sym (k.1 l).0) a;
    own = λ v. ap₂ (λ ps t. value.Bonus (cond t (with_bonus (took_part (λ p. worth_in (v (node.Line f p))) ps)) [])) (sym (k.1 l).0) (sym (k.1 l).1);
    values = λ m a. refl;
  }
  kept_untouched s (node.PlayerGw p g) k l = record {
    live = k.0 ∙ l;
    cell = refl;
    inputs = λ m a. subst (λ fs. Among (flat_map (λ f. node.Line f p ∷ node.Bonus f ∷ []) fs) m) (sym (k.1 l)) a;
    own = λ v. ap (λ fs. value.PlayerGw (gathered (λ f. worth_in (v (node.Line f p))) (λ f. unwrap_or (at_id (bonuses_in (v (node.Bonus f))) p) 0) fs)) (sym (k.1 l));
    values = λ m a. refl;
  }
  kept_untouched s (node.TeamGw e g) k l =
      let same = k.1 l in record {
        live = k.0 ∙ l;
        cell = refl;
        inputs = λ m a. subst (λ ps. Among (map (λ p. node.PlayerGw p g) ps) m) (sym same.3) a;
        own = λ v. sym (λ i. value.TeamGw (score_of (same.0 i) (figures_alike v e g same.0 same.3 i) (same.2 i) (same.1 i)));
        values = λ m a. refl;
      }
  kept_untouched s (node.Total e from) k l = record {
    live = k.0 ∙ l;
    cell = refl;
    inputs = λ m a. subst (λ gs. Among (map (node.TeamGw e) gs) m) (sym (k.1 l)) a;
    own = λ v. ap (λ gs. value.Total (total_of (map (λ g. net_held (v (node.TeamGw e g))) gs))) (sym (k.1 l));
    values = λ m a. refl;
  }
  kept_untouched s (node.Average l g) k alive =
      let same = k.1 alive in record {
        live = k.0 ∙ alive;
        cell = refl;
        inputs = average_reads b d l same.0 g same.1;
        own = λ v. ap value.Average (sym (average_alike b d l same.0 g same.1 v));
        values = λ m a. refl;
      }
  kept_untouched s (node.Match l g i) k alive =
      let same = k.1 alive in
      let within = (match_alive d l g i alive).1 in record {
        live = k.0 ∙ alive;
        cell = refl;
        inputs = λ m a. subst (λ ns. Among ns m) (sym (match_reads b d l same.0 g same.2 same.1 i within)) a;
        own = λ v. ap value.Match (sym (match_alike b d l same.0 g same.2 same.1 i within v));
        values = λ m a. refl;
      }
  kept_untouched s (node.HeadRow l e) k alive =
      let same = k.1 alive in
      let order = sym same.0 in
      let start = sym same.1 in
      let weeks = sym same.2 in record {
        live = k.0 ∙ alive;
        cell = refl;
        inputs = λ m a. subst (λ ns. Among ns m)
            (λ x. option_map_or (λ i. map (λ g. node.Match l g (lower (length (order x)) (g - start x) i)) (weeks x)) (place_of (order x) e) []) a;
        own = λ v. λ x. value.HeadRow (head_score (option_map_or
            (λ i. map (λ g. seen_from (nat_lt i (met (length (order x)) (g - start x) i)) (scores_held (v (node.Match l g (lower (length (order x)) (g - start x) i))))) (weeks x))
            (place_of (order x) e) []));
        values = λ m a. refl;
      }
  kept_untouched s (node.Tie c r i) k alive =
      let same = k.1 alive in record {
        live = k.0 ∙ alive;
        cell = refl;
        inputs = tie_reads b d c same.0 r i same.1;
        own = λ v. ap value.Tie (sym (tie_alike b d c same.0 r i same.1 v));
        values = λ m a. refl;
      }

  -- after a change of the facts all is sound but for what the change does not keep
  pub changed_start : IsSeason b → (X : Node → Type 0) (s : State Node Value) → Sound (season_graph b) s → ((n : Node) → IsKept b d n ⊎ X n) → SoundBut (season_graph d) X s
  changed_start is X s sound kept = sound_start (season_graph b) (season_graph d) (season_lawful b is) X s sound
      (λ n x. let k = kept_at n x in ((λ l. sym k.0 ∙ l), (λ l. k.0 ∙ l)))
      (λ n x l. kept_untouched s n (kept_at n x) l)
    where
      kept_at : (n : Node) → (¬ X n) → IsKept b d n
      kept_at n x = ⊎_elim (λ k. k) (λ y. absurd (x y)) (kept n)

pub other_same : (x y : Bool) → x ≡ y → is_other x y ≡ true → ⊥
other_same true true e o = clash (sym o)
other_same true false e o = clash e
other_same false true e o = clash (sym e)
other_same false false e o = clash (sym o)

pub from_rest : (t : Bool) (rest : List Node) (n : Node) → Among (cond t rest []) n → (t ≡ true) × Among rest n
from_rest true rest n a = (refl, a)
from_rest false rest n a = absurd a

pub to_rest : (t : Bool) (rest : List Node) (n : Node) → t ≡ true → Among rest n → Among (cond t rest []) n
to_rest t rest n e a = subst (λ u. Among (cond u rest []) n) (sym e) a

pub place_or_not : (place : Option ℕ) (g : ℕ) → (place ≡ Some g) ⊎ (place ≢ Some g)
place_or_not None g = inr (λ e. cc)
place_or_not (Some h) g = ⊎_elim (λ e. inl (ap Some e)) (λ n. inr (λ e. n (same_Some h g e))) (same_or_not h g)

pub beside_at : (p g : ℕ) (place : Option ℕ) → place ≡ Some g → Among (gameweek_beside p place) (node.PlayerGw p g)
beside_at p g place e = subst (λ o. Among (gameweek_beside p o) (node.PlayerGw p g)) (sym e) (inl refl)

pub from_beside : (p : ℕ) (place : Option ℕ) (n : Node) → Among (gameweek_beside p place) n → (g : ℕ) × ((place ≡ Some g) × (node.PlayerGw p g ≡ n))
from_beside p None n a = absurd a
from_beside p (Some g) n (inl e) = (g, (refl, e))
from_beside p (Some g) n (inr a) = absurd a

-- nothing is left out
sound_all : (d : SeasonFacts) (X : Node → Type 0) (s : State Node Value) → ((n : Node) → ¬ X n) → SoundBut (season_graph d) X s → Sound (season_graph d) s
sound_all d X s none sound = record {
  cells = λ n. sound.cells n (none n);
  inputs = λ n m. sound.inputs n m (none n);
  value = λ n. sound.value n (none n);
}

-- a change keeps all but the nodes of a list; with these up to date the cells are sound, and if nothing was dirty, then dirty are just these where they are live
module _ (b d : SeasonFacts) (is_b : IsSeason b) (is_d : IsSeason d) (ns : List Node) (kept : (n : Node) → IsKept b d n ⊎ Among ns n) (s t : State Node Value) (sound : Sound (season_graph b) s) (r : Refreshed (is_live d) (Among ns) s t) where
  pub change_sound : Sound (season_graph d) t
  change_sound = sound_all d (λ n. Among ns n × (¬ Among ns n)) t (λ n x. x.1 x.0)
      (refreshed_sound (is_live d) (Among ns) s t r (season_graph d) (season_lawful d is_d) (λ q. ((λ l. l), (λ l. l))) (Among ns) (changed_start b d is_b (Among ns) s sound kept))

  pub change_exact : ((n : Node) → Among ns n → is_live d n ≡ true → IsTouched b d n) → ((n : Node) → is_dirty (s n) ≡ false) → (n : Node) → IsDirty t n ↔ IsTouched b d n
  change_exact touched calm n = (
    (λ y. ⊎_elim (λ a. touched n a.0 a.1) (λ a. absurd (clash (sym a.1 ∙ calm n))) ((refreshed_exact (is_live d) (Among ns) s t r n).0 y)),
    (λ y. ⊎_elim (λ k. absurd (y.1 k)) (λ a. (refreshed_exact (is_live d) (Among ns) s t r n).1 (inl (a, y.0))) (kept n)),
  )

-- a node is touched whose inputs or own facts are others
pub at_node : (b d : SeasonFacts) (m n : Node) → m ≡ n → is_live d n ≡ true → (((is_live d m ≡ true) → IsSame b d m) → is_live d m ≡ true → ⊥) → IsTouched b d n
at_node b d m n e l other = (l, subst (λ x. ¬ IsKept b d x) e (λ k. other k.1 (subst (λ x. is_live d x ≡ true) (sym e) l)))

-- a line
module _ (b d : SeasonFacts) (is : IsSeason b) (is_d : IsSeason d) (f p : ℕ) (c : DifferInLine b d f p) where
  line_kept : (k q : ℕ) → (k ≢ f) ⊎ (q ≢ p) → IsKept b d (node.Line k q)
  line_kept k q o = (ap is_some (c.others k q o), λ l. (c.others k q o, c.profile, ap (λ ps. position_in ps q) c.players))

  bonus_kept : (k : ℕ) → ((q : ℕ) → has_line b q k ≡ has_line d q k) → IsKept b d (node.Bonus k)
  bonus_kept k e = let same = players_same b d is is_d k e in (some_lines b d k same, λ l. (same, c.marks k))

  gameweek_kept : (q g : ℕ) → ((k : ℕ) → Among (standing b.calendar g) k → has_line b q k ≡ has_line d q k) → IsKept b d (node.PlayerGw q g)
  gameweek_kept q g e = (
    (λ i. is_some (player_of (c.players i) q) && (nat_le 1 g && nat_le g (c.calendar i).locked)),
    λ l. filter_local (has_line b q) (has_line d q) (standing b.calendar g) e ∙ ap (λ x. filter (has_line d q) (standing x g)) c.calendar,
  )

  same_there : has_line b p f ≡ has_line d p f → (k q : ℕ) → has_line b q k ≡ has_line d q k
  same_there e k q = ⊎_elim (λ i. subst (λ x. has_line b q x ≡ has_line d q x) (sym i.0) (subst (λ x. has_line b x f ≡ has_line d x f) (sym i.1) e)) (λ o. ap is_some (c.others k q o)) (both_or_other k q f p)

  pub line_listed : (n : Node) → IsKept b d n ⊎ Among (line_nodes d f p (has_line b p f)) n
  line_listed (node.Line k q) = ⊎_elim (λ i. inr (inl (ap₂ node.Line (sym i.0) (sym i.1)))) (λ o. inl (line_kept k q o)) (both_or_other k q f p)
  line_listed (node.Bonus k) = ⊎_elim
      (λ e. inl (bonus_kept k (same_there e k)))
      (λ o. ⊎_elim (λ i. inr (inr (to_rest (is_other (has_line b p f) (has_line d p f)) (node.Bonus f ∷ gameweek_beside p (stands_in d.calendar f)) (node.Bonus k) o (inl (ap node.Bonus (sym i)))))) (λ n. inl (bonus_kept k (λ q. ap is_some (c.others k q (inl n))))) (same_or_not k f))
      (bool_case (has_line b p f) (has_line d p f))
  line_listed (node.PlayerGw q g) = ⊎_elim
      (λ e. inl (gameweek_kept q g (λ k a. same_there e k q)))
      (λ o. ⊎_elim
      (λ i. ⊎_elim
      (λ e. inr (inr (to_rest (is_other (has_line b p f) (has_line d p f)) (node.Bonus f ∷ gameweek_beside p (stands_in d.calendar f)) (node.PlayerGw q g) o
      (inr (subst (λ x. Among (gameweek_beside p (stands_in d.calendar f)) (node.PlayerGw x g)) (sym i) (beside_at p g (stands_in d.calendar f) e))))))
      (λ n. inl (gameweek_kept q g (λ k a. ap is_some (c.others k q (inl (λ j. n (ap (λ x. stands_in x f) (sym c.calendar) ∙ stands_there b.calendar.fixtures f g is.calendar.ids_rise (subst (λ x. Among (standing b.calendar g) x) j a))))))))
      (place_or_not (stands_in d.calendar f) g))
      (λ n. inl (gameweek_kept q g (λ k a. ap is_some (c.others k q (inr n)))))
      (same_or_not q p))
      (bool_case (has_line b p f) (has_line d p f))
  line_listed (node.TeamGw e g) = inl (team_kept b d c.entries e g (λ i. nat_le g (c.calendar i).locked) (λ i. has_ended (c.calendar i) (λ k. c.marks k i) g) (λ q a i. is_some (player_of (c.players i) q)))
  line_listed (node.Total e from) = inl (total_kept b d c.entries (ap (λ x. x.locked) c.calendar) c.leagues e from)
  line_listed (node.Average l g) = inl (average_stays b d c.entries (ap (λ x. x.locked) c.calendar) c.leagues l g)
  line_listed (node.Match l g i) = inl (match_stays b d c.entries (ap (λ x. x.locked) c.calendar) c.leagues l g i)
  line_listed (node.HeadRow l e) = inl (row_stays b d c.entries (ap (λ x. x.locked) c.calendar) c.leagues l e)
  line_listed (node.Tie k r i) = inl (tie_stays b d c.entries (ap (λ x. x.locked) c.calendar) k (λ x. bracket_in (c.cups x) k) r i)

  listed_same : players_of b f ≡ players_of d f → has_line b p f ≡ has_line d p f
  listed_same e = sym (listed_test (lines_of b.matches f) p) ∙ ap (list_any (λ q. q == p)) e ∙ listed_test (lines_of d.matches f) p

  counted_same : (g : ℕ) → stands_in d.calendar f ≡ Some g → fixtures_of b p g ≡ fixtures_of d p g → has_line b p f ≡ has_line d p f
  counted_same g e i =
      let at : Among (standing d.calendar g) f = there_stands d.calendar.fixtures f g e in
      let before : Among (standing b.calendar g) f = subst (λ x. Among (standing x g) f) (sym c.calendar) at in
      iff_same (has_line b p f) (has_line d p f)
      (λ h. (from_filter (has_line d p) (standing d.calendar g) f (subst (λ xs. Among xs f) i (to_filter (has_line b p) (standing b.calendar g) f before h))).1)
      (λ h. (from_filter (has_line b p) (standing b.calendar g) f (subst (λ xs. Among xs f) (sym i) (to_filter (has_line d p) (standing d.calendar g) f at h))).1)

  pub line_touched : line_of b.matches f p ≢ line_of d.matches f p → (n : Node) → Among (line_nodes d f p (has_line b p f)) n → is_live d n ≡ true → IsTouched b d n
  line_touched differs n (inl e) l = at_node b d (node.Line f p) n e l (λ k live. differs (k live).0)
  line_touched differs n (inr a) l = rest (from_rest (is_other (has_line b p f) (has_line d p f)) (node.Bonus f ∷ gameweek_beside p (stands_in d.calendar f)) n a)
    where
      rest : (is_other (has_line b p f) (has_line d p f) ≡ true) × Among (node.Bonus f ∷ gameweek_beside p (stands_in d.calendar f)) n → IsTouched b d n
      rest r = ⊎_elim
          (λ e. at_node b d (node.Bonus f) n e l (λ k live. other_same (has_line b p f) (has_line d p f) (listed_same (k live).0) r.0))
          (λ x. let y = from_beside p (stands_in d.calendar f) n x in
          at_node b d (node.PlayerGw p y.0) n y.1.1 l (λ k live. other_same (has_line b p f) (has_line d p f) (counted_same y.0 y.1.0 (k live)) r.0))
          r.1

-- the cells follow a change of one line
module _ (b d : SeasonFacts) (is_b : IsSeason b) (is_d : IsSeason d) (s t : State Node Value) where
  at_line : (f p : ℕ) → Sound (season_graph b) s → Refreshed (is_live d) (Among (line_nodes d f p (is_some (s (node.Line f p))))) s t → Refreshed (is_live d) (Among (line_nodes d f p (has_line b p f))) s t
  at_line f p sound r = subst (λ was. Refreshed (is_live d) (Among (line_nodes d f p was)) s t) (had_cell_at (node.Line f p) sound) r
    where
      had_cell_at : (n : Node) → Sound (season_graph b) s → is_some (s n) ≡ is_live b n
      had_cell_at n sound = iff_same (is_some (s n)) (is_live b n) (sound.cells n).0 (sound.cells n).1

  pub line_follows : (f p : ℕ) → DifferInLine b d f p → Refreshed (is_live d) (Among (line_nodes d f p (is_some (s (node.Line f p))))) s t → Follows b d s t
  line_follows f p c r sound = change_sound b d is_b is_d (line_nodes d f p (has_line b p f)) (line_listed b d is_b is_d f p c) s t sound (at_line f p sound r)

  pub line_marks : (f p : ℕ) → DifferInLine b d f p → line_of b.matches f p ≢ line_of d.matches f p → Refreshed (is_live d) (Among (line_nodes d f p (is_some (s (node.Line f p))))) s t → MarksTouched b d s t
  line_marks f p c differs r sound = change_exact b d is_b is_d (line_nodes d f p (has_line b p f)) (line_listed b d is_b is_d f p c) s t sound (at_line f p sound r) (line_touched b d is_b is_d f p c differs)
