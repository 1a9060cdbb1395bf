-- What some lines of a fixture and its mark touch.
use Rattle.std.proofs.Common.{◌≡◌, ◌≢◌, ℕ, ◌==◌, Bool, true, false, ◌&&◌, cond, nat_le, ◌⊎◌, inl, inr, ⊎_elim, List, [], ◌∷◌, ◌++◌, Some, is_some, refl, sym, ◌∙◌, ap, subst}
use Rattle.std.specs.List.{filter, list_any}
use Rattle.rule_book.specs.Calendar.{has_ended, standing, stands_in}
use Rattle.rule_book.specs.MatchFacts.{is_finished, line_of, lines_of}
use Rattle.rule_book.specs.PlayerFigures.{position_in}
use Rattle.rule_book.specs.Players.{player_of}
use Rattle.rescore_graph.specs.Graph.{Among}
use Rattle.rescore_graph.specs.States.{State}
use Rattle.season_graph.specs.Changes.{IsKept, IsTouched, DifferInSheet, Follows, MarksTouched}
use Rattle.season_nodes.specs.Brackets.{bracket_in}
use Rattle.season_nodes.specs.declared.nodes.Node.{Node}
use Rattle.season_nodes.specs.declared.nodes.Node.TheVariants as node
use Rattle.season_nodes.specs.declared.nodes.Value.{Value}
use Rattle.season_nodes.specs.Reading.{among_either, among_left, among_right, filter_local, from_filter, to_filter, from_flat, to_flat}
use Rattle.season_graph.specs.Refreshed.{Refreshed}
use Rattle.season_nodes.specs.Season.{SeasonFacts, IsSeason, fixtures_of, has_line, is_live, players_of}
use Rattle.season_graph.specs.Touched.{is_other, gameweek_beside, line_nodes, lines_nodes, mark_nodes, sheet_nodes}
use Rattle.season_graph.proofs.ChangedFacts.{among_or_not, beside_at, bool_case, at_node, change_exact, change_sound, other_same, from_beside, from_rest, iff_same, place_or_not, same_or_not, some_lines, to_rest}
use Rattle.season_graph.proofs.EndingFacts.{ending_listed, ending_touched}
use Rattle.season_graph.proofs.RoundFacts.{average_stays, match_stays, row_stays}
use Rattle.season_graph.proofs.CupFacts.{tie_stays}
use Rattle.season_graph.proofs.TeamFacts.{team_kept, total_kept}
use Rattle.season_nodes.proofs.DependentFacts.{stands_there, there_stands}
use Rattle.season_nodes.proofs.Lists.{listed_test}
use Rattle.season_nodes.proofs.RisingFacts.{players_same}
use Rattle.season_graph.proofs.RefreshedFacts.{refreshed_append, refreshed_some, refreshed_same, refreshed_both}

module _ (b d : SeasonFacts) (is_b : IsSeason b) (is_d : IsSeason d) (f : ℕ) (ps : List ℕ) (marked : Bool) (c : DifferInSheet b d f ps marked) where
  abbrev was : ℕ → Bool
  was p = has_line b p f

  abbrev nodes : List Node
  nodes = sheet_nodes d was f ps marked

  -- somebody of the list has a line and had none, or no longer has one; or nobody
  some_or_none : (qs : List ℕ) → ((q : ℕ) × (Among qs q × (is_other (was q) (has_line d q f) ≡ true))) ⊎ ((q : ℕ) → Among qs q → was q ≡ has_line d q f)
  some_or_none [] = inr (λ q a. absurd a)
  some_or_none (p ∷ qs) = ⊎_elim
      (λ e. ⊎_elim (λ r. inl (r.0, (inr r.1.0, r.1.1))) (λ n. inr (λ q a. ⊎_elim (λ i. subst (λ x. was x ≡ has_line d x f) i e) (n q) a)) (some_or_none qs))
      (λ o. inl (p, (inl refl, o)))
      (bool_case (was p) (has_line d p f))

  in_lines : (p : ℕ) (n : Node) → Among ps p → Among (line_nodes d f p (was p)) n → Among nodes n
  in_lines p n a x = among_left (lines_nodes d was f ps) (if_marked) n (to_flat (λ q. line_nodes d f q (was q)) ps p n a x)
    where
      if_marked : List Node
      if_marked = cond marked (mark_nodes d f) []

  in_mark : (n : Node) → marked ≡ true → Among (mark_nodes d f) n → Among nodes n
  in_mark n i a = among_right (lines_nodes d was f ps) (cond marked (mark_nodes d f) []) n (subst (λ t. Among (cond t (mark_nodes d f) []) n) (sym i) a)

  in_rest : (p : ℕ) (n : Node) → Among ps p → is_other (was p) (has_line d p f) ≡ true → Among (node.Bonus f ∷ gameweek_beside p (stands_in d.calendar f)) n → Among nodes n
  in_rest p n a o x = in_lines p n a (inr (to_rest (is_other (was p) (has_line d p f)) (node.Bonus f ∷ gameweek_beside p (stands_in d.calendar f)) n o x))

  line_same : (k q : ℕ) → (k ≢ f) ⊎ (¬ Among ps q) → has_line b q k ≡ has_line d q k
  line_same k q o = ap is_some (c.others k q o)

  all_same : ((q : ℕ) → Among ps q → was q ≡ has_line d q f) → (q : ℕ) → has_line b q f ≡ has_line d q f
  all_same n q = ⊎_elim (n q) (λ m. line_same f q (inr m)) (among_or_not ps q)

  bonus_kept : (k : ℕ) → players_of b k ≡ players_of d k → is_finished b.matches k ≡ is_finished d.matches k → IsKept b d (node.Bonus k)
  bonus_kept k e m = (some_lines b d k e, λ l. (e, m))

  gameweek_kept : (q g : ℕ) → ((k : ℕ) → Among (standing b.calendar g) k → has_line b q k ≡ has_line d q k) → IsKept b d (node.PlayerGw q g)
  gameweek_kept q g e = (
    (λ i. is_some (player_of (c.players i) q) && (nat_le 1 g && nat_le g (c.calendar i).locked)),
    λ l. filter_local (has_line b q) (has_line d q) (standing b.calendar g) e ∙ ap (λ x. filter (has_line d q) (standing x g)) c.calendar,
  )

  bonus_listed : (t : Bool) → marked ≡ t → IsKept b d (node.Bonus f) ⊎ Among nodes (node.Bonus f)
  bonus_listed true e = inr (in_mark (node.Bonus f) e (inl refl))
  bonus_listed false e = ⊎_elim
      (λ r. inr (in_rest r.0 (node.Bonus f) r.1.0 r.1.1 (inl refl)))
      (λ n. inl (bonus_kept f (players_same b d is_b is_d f (all_same n)) (c.marks f (inr e))))
      (some_or_none ps)

  team_listed : (t : Bool) → marked ≡ t → (e g : ℕ) → IsKept b d (node.TeamGw e g) ⊎ Among nodes (node.TeamGw e g)
  team_listed true i e g = ⊎_elim inl (λ a. inr (in_mark (node.TeamGw e g) i (inr a))) (ending_listed b d is_d f c.calendar c.players (λ k n. c.marks k (inl n)) c.entries e g)
  team_listed false i e g = inl (team_kept b d c.entries e g (λ j. nat_le g (c.calendar j).locked) (λ j. has_ended (c.calendar j) (λ k. c.marks k (inr i) j) g) (λ q a j. is_some (player_of (c.players j) q)))

  pub sheet_listed : (n : Node) → IsKept b d n ⊎ Among nodes n
  sheet_listed (node.Line k q) = ⊎_elim
      (λ i. ⊎_elim
      (λ a. inr (in_lines q (node.Line k q) a (inl (ap (λ x. node.Line x q) (sym i)))))
      (λ m. inl (line_same k q (inr m), λ l. (c.others k q (inr m), c.profile, ap (λ x. position_in x q) c.players)))
      (among_or_not ps q))
      (λ n. inl (line_same k q (inl n), λ l. (c.others k q (inl n), c.profile, ap (λ x. position_in x q) c.players)))
      (same_or_not k f)
  sheet_listed (node.Bonus k) = ⊎_elim
      (λ i. subst (λ x. IsKept b d (node.Bonus x) ⊎ Among nodes (node.Bonus x)) (sym i) (bonus_listed marked refl))
      (λ n. inl (bonus_kept k (players_same b d is_b is_d k (λ q. line_same k q (inl n))) (c.marks k (inl n))))
      (same_or_not k f)
  sheet_listed (node.PlayerGw q g) = ⊎_elim
      (λ a. ⊎_elim
      (λ e. inl (gameweek_kept q g (λ k x. ⊎_elim (λ i. subst (λ y. has_line b q y ≡ has_line d q y) (sym i) e) (λ n. line_same k q (inl n)) (same_or_not k f))))
      (λ o. ⊎_elim
      (λ e. inr (in_rest q (node.PlayerGw q g) a o (inr (beside_at q g (stands_in d.calendar f) e))))
      (λ n. inl (gameweek_kept q g (λ k x. line_same k q (inl (λ j. n (ap (λ y. stands_in y f) (sym c.calendar) ∙ stands_there b.calendar.fixtures f g is_b.calendar.ids_rise (subst (λ y. Among (standing b.calendar g) y) j x)))))))
      (place_or_not (stands_in d.calendar f) g))
      (bool_case (was q) (has_line d q f)))
      (λ m. inl (gameweek_kept q g (λ k x. line_same k q (inr m))))
      (among_or_not ps q)
  sheet_listed (node.TeamGw e g) = team_listed marked refl e g
  sheet_listed (node.Total e s) = inl (total_kept b d c.entries (ap (λ x. x.locked) c.calendar) c.leagues e s)
  sheet_listed (node.Average l g) = inl (average_stays b d c.entries (ap (λ x. x.locked) c.calendar) c.leagues l g)
  sheet_listed (node.Match l g i) = inl (match_stays b d c.entries (ap (λ x. x.locked) c.calendar) c.leagues l g i)
  sheet_listed (node.HeadRow l e) = inl (row_stays b d c.entries (ap (λ x. x.locked) c.calendar) c.leagues l e)
  sheet_listed (node.Tie k r i) = inl (tie_stays b d c.entries (ap (λ x. x.locked) c.calendar) k (λ x. bracket_in (c.cups x) k) r i)

  listed_same : (p : ℕ) → players_of b f ≡ players_of d f → was p ≡ has_line d p f
  listed_same p e = sym (listed_test (lines_of b.matches f) p) ∙ ap (list_any (λ q. q == p)) e ∙ listed_test (lines_of d.matches f) p

  counted_same : (p g : ℕ) → stands_in d.calendar f ≡ Some g → fixtures_of b p g ≡ fixtures_of d p g → was p ≡ has_line d p f
  counted_same p g e i =
      let at : Among (standing d.calendar g) f = there_stands d.calendar.fixtures f g e in
      let before : Among (standing b.calendar g) f = subst (λ x. Among (standing x g) f) (sym c.calendar) at in
      iff_same (was p) (has_line d p f)
      (λ h. (from_filter (has_line d p) (standing d.calendar g) f (subst (λ xs. Among xs f) i (to_filter (has_line b p) (standing b.calendar g) f before h))).1)
      (λ h. (from_filter (has_line b p) (standing b.calendar g) f (subst (λ xs. Among xs f) (sym i) (to_filter (has_line d p) (standing d.calendar g) f at h))).1)

  module _ (differ : (p : ℕ) → Among ps p → line_of b.matches f p ≢ line_of d.matches f p) (mark : marked ≡ true → is_finished b.matches f ≢ is_finished d.matches f) where
    by_line : (n : Node) (p : ℕ) → Among ps p → Among (line_nodes d f p (was p)) n → is_live d n ≡ true → IsTouched b d n
    by_line n p a (inl e) l = at_node b d (node.Line f p) n e l (λ k live. differ p a (k live).0)
    by_line n p a (inr x) l = rest (from_rest (is_other (was p) (has_line d p f)) (node.Bonus f ∷ gameweek_beside p (stands_in d.calendar f)) n x)
      where
        rest : (is_other (was p) (has_line d p f) ≡ true) × Among (node.Bonus f ∷ gameweek_beside p (stands_in d.calendar f)) n → IsTouched b d n
        rest r = ⊎_elim
            (λ e. at_node b d (node.Bonus f) n e l (λ k live. other_same (was p) (has_line d p f) (listed_same p (k live).0) r.0))
            (λ y. let z = from_beside p (stands_in d.calendar f) n y in
            at_node b d (node.PlayerGw p z.0) n z.1.1 l (λ k live. other_same (was p) (has_line d p f) (counted_same p z.0 z.1.0 (k live)) r.0))
            r.1

    by_mark : (n : Node) → Among (cond marked (mark_nodes d f) []) n → is_live d n ≡ true → IsTouched b d n
    by_mark n a l = let r = from_rest marked (mark_nodes d f) n a in
        let alive : node.Bonus f ≡ n → is_live d (node.Bonus f) ≡ true = λ e. subst (λ z. is_live d z ≡ true) (sym e) l in
        ⊎_elim (λ e. (l, subst (λ z. ¬ IsKept b d z) e (λ (k : IsKept b d (node.Bonus f)). mark r.0 (k.1 (alive e)).1)))
        (λ x. ending_touched b d is_d f c.calendar c.players (λ k n. c.marks k (inl n)) c.entries (mark r.0) n x l) r.1

    pub sheet_touched : (n : Node) → Among nodes n → is_live d n ≡ true → IsTouched b d n
    sheet_touched n a l = ⊎_elim
        (λ x. let r = from_flat (λ p. line_nodes d f p (was p)) ps n x in by_line n r.0 r.1.0 r.1.1 l)
        (λ x. by_mark n x l)
        (among_either (lines_nodes d was f ps) (cond marked (mark_nodes d f) []) n a)

    pub sheet_marks : (s t : State Node Value) → Refreshed (is_live d) (Among nodes) s t → MarksTouched b d s t
    sheet_marks s t r sound = change_exact b d is_b is_d nodes sheet_listed s t sound r sheet_touched

  pub sheet_follows : (s t : State Node Value) → Refreshed (is_live d) (Among nodes) s t → Follows b d s t
  sheet_follows s t r sound = change_sound b d is_b is_d nodes sheet_listed s t sound r

not_line : (q g f p : ℕ) → node.PlayerGw q g ≡ node.Line f p → ⊥
not_line q g f p e = cc

-- one line after others: where it was told before, it is told no other way than it was
line_in_nodes : (d : SeasonFacts) (f p q : ℕ) (w : Bool) → Among (line_nodes d f q w) (node.Line f p) → q ≡ p
line_in_nodes d f p q w (inl e) = ap player e
  where
    player : Node → ℕ
    player (node.Line k x) = x
    player (node.Bonus k) = 0
    player (node.PlayerGw x g) = 0
    player (node.TeamGw x g) = 0
    player (node.Total x s) = 0
    player (node.Average l g) = 0
    player (node.Match l g i) = 0
    player (node.HeadRow l x) = 0
    player (node.Tie k r i) = 0
line_in_nodes d f p q w (inr a) = other (from_rest (is_other w (has_line d q f)) (node.Bonus f ∷ gameweek_beside q (stands_in d.calendar f)) (node.Line f p) a).1
  where
    other : Among (node.Bonus f ∷ gameweek_beside q (stands_in d.calendar f)) (node.Line f p) → q ≡ p
    other (inl e) = absurd (cc)
    other (inr x) = let r = from_beside q (stands_in d.calendar f) (node.Line f p) x in absurd (not_line q r.0 f p r.1.1)

-- what a line touches, by whether it has a cell after others, is what it touches by whether it was there
pub line_more : (d : SeasonFacts) (w : ℕ → Bool) (f p : ℕ) (qs : List ℕ) (s t u : State Node Value) → is_some (s (node.Line f p)) ≡ w p
    → Refreshed (is_live d) (Among (lines_nodes d w f qs)) s t → Refreshed (is_live d) (Among (line_nodes d f p (is_some (t (node.Line f p))))) t u
    → Refreshed (is_live d) (Among (lines_nodes d w f qs ++ line_nodes d f p (w p))) s u
line_more d w f p qs s t u had so_far one = ⊎_elim
    (λ x.
    let r = from_flat (λ q. line_nodes d f q (w q)) qs (node.Line f p) x.0 in
    let i : r.0 ≡ p = line_in_nodes d f p r.0 (w r.0) r.1.1 in
    let again : is_some (t (node.Line f p)) ≡ has_line d p f = ap is_some x.1 ∙ refreshed_some (is_live d (node.Line f p)) (s (node.Line f p)) in
    refreshed_same (is_live d) (λ n. Among (lines_nodes d w f qs) n ⊎ Among (line_nodes d f p (is_some (t (node.Line f p)))) n) (Among (lines_nodes d w f qs ++ line_nodes d f p (w p))) s u
    (λ n. (
      (λ o. among_left (lines_nodes d w f qs) (line_nodes d f p (w p)) n (⊎_elim (λ a. a) (λ a. subst (λ m. Among (lines_nodes d w f qs) m) (alone n again a) x.0) o)),
      (λ o. inl (⊎_elim (λ a. a) (λ a. to_flat (λ q. line_nodes d f q (w q)) qs p n (subst (λ y. Among qs y) i r.1.0) a) (among_either (lines_nodes d w f qs) (line_nodes d f p (w p)) n o))),
    ))
    (refreshed_both (is_live d) (Among (lines_nodes d w f qs)) (Among (line_nodes d f p (is_some (t (node.Line f p))))) s t u so_far one))
    (λ x. refreshed_append (is_live d) (lines_nodes d w f qs) (line_nodes d f p (w p)) s t u so_far
    (subst (λ v. Refreshed (is_live d) (Among (line_nodes d f p v)) t u) (ap is_some x.1 ∙ had) one))
    (so_far (node.Line f p))
  where
    same_none : (x y : Bool) → x ≡ y → is_other x y ≡ true → ⊥
    same_none true true e o = cc
    same_none true false e o = cc
    same_none false true e o = cc
    same_none false false e o = cc

    alone : (n : Node) → is_some (t (node.Line f p)) ≡ has_line d p f → Among (line_nodes d f p (is_some (t (node.Line f p)))) n → node.Line f p ≡ n
    alone n e (inl i) = i
    alone n e (inr a) = let r = from_rest (is_other (is_some (t (node.Line f p))) (has_line d p f)) (node.Bonus f ∷ gameweek_beside p (stands_in d.calendar f)) n a in absurd (same_none (is_some (t (node.Line f p))) (has_line d p f) e r.0)

-- the nodes of a list by another test that tells the same
nodes_same : (d : SeasonFacts) (w v : ℕ → Bool) (f : ℕ) (ps : List ℕ) (marked : Bool) → ((p : ℕ) → w p ≡ v p) → sheet_nodes d w f ps marked ≡ sheet_nodes d v f ps marked
nodes_same d w v f ps marked e = ap (λ u. sheet_nodes d u f ps marked) (λ i p. e p i)

-- the cells follow a sheet
pub sheet_sound : (b d : SeasonFacts) → IsSeason b → IsSeason d → (f : ℕ) (ps : List ℕ) (marked : Bool) → DifferInSheet b d f ps marked → (s t : State Node Value)
    → Refreshed (is_live d) (Among (sheet_nodes d (λ p. is_some (s (node.Line f p))) f ps marked)) s t → Follows b d s t
sheet_sound b d is_b is_d f ps marked c s t r sound = sheet_follows b d is_b is_d f ps marked c s t
    (subst (λ ns. Refreshed (is_live d) (Among ns) s t)
    (nodes_same d (λ p. is_some (s (node.Line f p))) (λ p. has_line b p f) f ps marked (λ p. iff_same (is_some (s (node.Line f p))) (has_line b p f) (sound.cells (node.Line f p)).0 (sound.cells (node.Line f p)).1)) r)
    sound

-- and dirty are exactly the nodes that it touches
pub sheet_exact : (b d : SeasonFacts) → IsSeason b → IsSeason d → (f : ℕ) (ps : List ℕ) (marked : Bool) → DifferInSheet b d f ps marked
    → ((p : ℕ) → Among ps p → line_of b.matches f p ≢ line_of d.matches f p) → (marked ≡ true → is_finished b.matches f ≢ is_finished d.matches f) → (s t : State Node Value)
    → Refreshed (is_live d) (Among (sheet_nodes d (λ p. is_some (s (node.Line f p))) f ps marked)) s t → MarksTouched b d s t
sheet_exact b d is_b is_d f ps marked c differ mark s t r sound = sheet_marks b d is_b is_d f ps marked c differ mark s t
    (subst (λ ns. Refreshed (is_live d) (Among ns) s t)
    (nodes_same d (λ p. is_some (s (node.Line f p))) (λ p. has_line b p f) f ps marked (λ p. iff_same (is_some (s (node.Line f p))) (has_line b p f) (sound.cells (node.Line f p)).0 (sound.cells (node.Line f p)).1)) r)
    sound
