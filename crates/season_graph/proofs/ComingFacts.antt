-- What a new player touches.
use Rattle.std.proofs.Common.{◌≡◌, ◌≢◌, ℕ, ◌+◌, ◌<◌, ◌≤◌, Bool, true, false, ◌&&◌, nat_le, ◌⊎◌, inl, inr, ⊎_elim, List, is_some, refl, sym, ◌∙◌, ap, subst, arith}
use Rattle.std.specs.List.{filter}
use Rattle.std.specs.Option.{option_map_or}
use Rattle.std.proofs.lemmas.Bool.Decides.{nat_tests}
use Rattle.rule_book.specs.Calendar.{has_ended, standing}
use Rattle.rule_book.specs.MatchFacts.{is_finished, line_of}
use Rattle.rule_book.specs.PlayerFigures.{position_in}
use Rattle.rule_book.specs.Players.{player_of}
use Rattle.fpl_base.specs.declared.kinds.Position.TheVariants.{Keeper}
use Rattle.rescore_graph.specs.Graph.{Among}
use Rattle.rescore_graph.specs.States.{State}
use Rattle.season_graph.specs.Changes.{IsKept, IsTouched, DifferInPlayer, Follows, MarksTouched}
use Rattle.season_nodes.specs.Brackets.{bracket_in}
use Rattle.season_nodes.specs.declared.nodes.Node.{Node}
use Rattle.season_nodes.specs.declared.nodes.Node.TheVariants as node
use Rattle.season_nodes.specs.declared.nodes.Value.{Value}
use Rattle.season_nodes.specs.Dependents.{gameweek_dependents}
use Rattle.season_nodes.specs.IndexFacts.{IsIndex}
use Rattle.season_nodes.specs.Reading.{among_either, among_left, among_right, from_filter, from_map, to_filter, to_map}
use Rattle.season_graph.specs.Refreshed.{Refreshed}
use Rattle.season_nodes.specs.Season.{SeasonFacts, IsSeason, fifteen_of, fixtures_of, has_line, is_live, is_there, players_of}
use Rattle.season_nodes.specs.SeasonLaws.{first_true, second_true}
use Rattle.season_graph.specs.Touched.{coming_nodes, holding_nodes, player_nodes}
use Rattle.season_graph.proofs.ChangedFacts.{among_or_not, at_node, change_exact, change_sound, same_or_not}
use Rattle.season_graph.proofs.GameweekFacts.{from_gameweeks, from_numbered, gameweek_among, numbered_among}
use Rattle.season_graph.proofs.RoundFacts.{average_stays, match_stays, row_stays}
use Rattle.season_graph.proofs.CupFacts.{tie_stays}
use Rattle.season_graph.proofs.TeamFacts.{team_alive, team_dead, team_kept, total_kept}

clash : true ≡ false → ⊥
clash e = cc

false_or_true : (b : Bool) → (b ≡ false) ⊎ (b ≡ true)
false_or_true true = inr refl
false_or_true false = inl refl

and_false : (x y : Bool) → x ≡ false → (x && y) ≡ false
and_false true y e = absurd (clash e)
and_false false y e = refl

at_least : (g : ℕ) → nat_le 1 g ≡ true → 0 < g
at_least g t = grind (arith, nat_tests)

at_most : (g n : ℕ) → nat_le g n ≡ true → g ≤ 0 + n
at_most g n t = grind (arith, nat_tests)

to_most : (h n : ℕ) → nat_le h n ≡ true → h ≤ n
to_most h n t = grind (arith, nat_tests)

module _ (b d : SeasonFacts) (is_b : IsSeason b) (p : ℕ) (c : DifferInPlayer b d p) (holders : ℕ → ℕ → List ℕ) (index : IsIndex d holders) where
  abbrev his : List Node
  his = player_nodes p 0 d.calendar.locked

  abbrev theirs : List Node
  theirs = holding_nodes holders p d.calendar.locked

  abbrev holding : ℕ → List Node
  holding g = gameweek_dependents (holders p g) g

  abbrev nodes : List Node
  nodes = coming_nodes d holders p

  line_same : (q f : ℕ) → has_line b q f ≡ has_line d q f
  line_same q f = ap (λ m. is_some (line_of m f q)) c.matches

  position_same : (q : ℕ) → q ≢ p → position_in b.players q ≡ position_in d.players q
  position_same q n = ap (λ o. option_map_or (λ x. x.position) o Keeper) (c.others q n)

  fixtures_same : (q g : ℕ) → fixtures_of b q g ≡ fixtures_of d q g
  fixtures_same q g = λ i. filter (λ f. is_some (line_of (c.matches i) f q)) (standing (c.calendar i) g)

  dead : (f q : ℕ) → q ≡ p → is_live d (node.Line f q) ≡ true → ⊥
  dead f q i l = clash (sym (is_b.there f p (line_same p f ∙ sym (ap (λ x. has_line d x f) i) ∙ l)) ∙ c.absent)

  -- the index tells of a team that holds him
  held : (e g : ℕ) → is_live d (node.TeamGw e g) ≡ true → Among (fifteen_of d e g) p → Among nodes (node.TeamGw e g)
  held e g l a =
      let alive = team_alive d e g l in
      among_right his theirs (node.TeamGw e g) (numbered_among holding d.calendar.locked g (node.TeamGw e g) (to_most 1 g alive.2) (to_most g d.calendar.locked alive.3)
      (to_map (λ x. node.TeamGw x g) (holders p g) e ((index p g e).1 (l, a))))

  pub coming_listed : (n : Node) → IsKept b d n ⊎ Among nodes n
  coming_listed (node.Line f q) = inl (line_same q f, λ l. (ap (λ m. line_of m f q) c.matches, c.profile, ⊎_elim (λ i. absurd (dead f q i l)) (position_same q) (same_or_not q p)))
  coming_listed (node.Bonus f) = inl (ap (λ m. is_live (record b { matches = m }) (node.Bonus f)) c.matches, λ l. (ap (λ m. players_of (record b { matches = m }) f) c.matches, ap (λ m. is_finished m f) c.matches))
  coming_listed (node.PlayerGw q g) = ⊎_elim
      (λ i. ⊎_elim
      (λ l. inl (subst (λ x. is_live b (node.PlayerGw x g) ≡ is_live d (node.PlayerGw x g)) (sym i) (and_false (is_some (player_of b.players p)) (nat_le 1 g && nat_le g b.calendar.locked) c.absent ∙ sym l), λ x. fixtures_same q g))
      (λ l. let there = second_true (is_some (player_of d.players p)) (nat_le 1 g && nat_le g d.calendar.locked) l in
      inr (subst (λ x. Among nodes (node.PlayerGw x g)) (sym i) (among_left his theirs (node.PlayerGw p g) (gameweek_among (node.PlayerGw p) 0 g d.calendar.locked (at_least g (first_true (nat_le 1 g) (nat_le g d.calendar.locked) there)) (at_most g d.calendar.locked (second_true (nat_le 1 g) (nat_le g d.calendar.locked) there))))))
      (false_or_true (is_live d (node.PlayerGw p g))))
      (λ n. inl ((λ i. is_some (c.others q n i) && (nat_le 1 g && nat_le g (c.calendar i).locked)), λ x. fixtures_same q g))
      (same_or_not q p)
  coming_listed (node.TeamGw e g) = ⊎_elim
      (λ dead. inl (team_dead b d c.entries e g (λ i. nat_le g (c.calendar i).locked) dead))
      (λ l. ⊎_elim
      (λ a. inr (held e g l a))
      (λ n. inl (team_kept b d c.entries e g (λ i. nat_le g (c.calendar i).locked) (λ i. has_ended (c.calendar i) (is_finished (c.matches i)) g)
      (λ q a. ap is_some (c.others q (λ i. n (subst (λ x. Among (fifteen_of d e g) x) i a))))))
      (among_or_not (fifteen_of d e g) p))
      (false_or_true (is_live d (node.TeamGw e g)))
  coming_listed (node.Total e s) = inl (total_kept b d c.entries (ap (λ x. x.locked) c.calendar) c.leagues e s)
  coming_listed (node.Average l g) = inl (average_stays b d c.entries (ap (λ x. x.locked) c.calendar) c.leagues l g)
  coming_listed (node.Match l g i) = inl (match_stays b d c.entries (ap (λ x. x.locked) c.calendar) c.leagues l g i)
  coming_listed (node.HeadRow l e) = inl (row_stays b d c.entries (ap (λ x. x.locked) c.calendar) c.leagues l e)
  coming_listed (node.Tie k r i) = inl (tie_stays b d c.entries (ap (λ x. x.locked) c.calendar) k (λ x. bracket_in (c.cups x) k) r i)

  -- a team that holds him has him now, and did not
  team_touched : (n : Node) → Among theirs n → is_live d n ≡ true → IsTouched b d n
  team_touched n a l =
      let r = from_numbered holding d.calendar.locked n a in
      let s = from_map (λ e. node.TeamGw e r.0) (holders p r.0) n r.1 in
      let among = ((index p r.0 s.0).0 s.1.0).1 in
      at_node b d (node.TeamGw s.0 r.0) n s.1.1 l (λ k live. clash
      (sym (from_filter (is_there b) (fifteen_of b s.0 r.0) p (subst (λ ps. Among ps p) (sym (k live).3) (to_filter (is_there d) (fifteen_of d s.0 r.0) p among c.there))).1 ∙ c.absent))

  pub coming_touched : (n : Node) → Among nodes n → is_live d n ≡ true → IsTouched b d n
  coming_touched n a l = ⊎_elim
      (λ x. let r = from_gameweeks (node.PlayerGw p) 0 d.calendar.locked n x in
      (l, λ k. clash (sym l ∙ sym k.0 ∙ subst (λ z. is_live b z ≡ false) r.1.1 (and_false (is_some (player_of b.players p)) (nat_le 1 r.0 && nat_le r.0 b.calendar.locked) c.absent))))
      (λ x. team_touched n x l)
      (among_either his theirs n a)

  -- the cells follow
  module _ (is_d : IsSeason d) (s t : State Node Value) (r : Refreshed (is_live d) (Among nodes) s t) where
    pub coming_follows : Follows b d s t
    coming_follows sound = change_sound b d is_b is_d nodes coming_listed s t sound r

    pub coming_marks : MarksTouched b d s t
    coming_marks sound = change_exact b d is_b is_d nodes coming_listed s t sound r coming_touched
