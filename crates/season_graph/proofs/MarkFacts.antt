-- What a mark touches.
use Rattle.std.proofs.Common.{◌≡◌, ◌≢◌, ℕ, nat_le, true, ◌&&◌, ◌⊎◌, inl, inr, ⊎_elim, is_some, sym, ◌∙◌, ap, subst}
use Rattle.std.specs.List.{filter}
use Rattle.rule_book.specs.Calendar.{standing}
use Rattle.rule_book.specs.MatchFacts.{is_finished}
use Rattle.rule_book.specs.PlayerFigures.{position_in}
use Rattle.rule_book.specs.Players.{player_of}
use Rattle.rescore_graph.specs.Graph.{Among}
use Rattle.rescore_graph.specs.States.{State}
use Rattle.season_graph.specs.Changes.{IsKept, IsTouched, DifferInMark, Follows, MarksTouched}
use Rattle.season_nodes.specs.Brackets.{bracket_in}
use Rattle.season_nodes.specs.declared.nodes.Node.{Node}
use Rattle.season_nodes.specs.declared.nodes.Node.TheVariants as node
use Rattle.season_nodes.specs.declared.nodes.Value.{Value}
use Rattle.season_nodes.specs.Reading.{filter_local}
use Rattle.season_graph.specs.Refreshed.{Refreshed}
use Rattle.season_nodes.specs.Season.{SeasonFacts, IsSeason, has_line, is_live}
use Rattle.season_graph.specs.Touched.{mark_nodes}
use Rattle.season_graph.proofs.ChangedFacts.{change_exact, change_sound, same_or_not, some_lines}
use Rattle.season_graph.proofs.EndingFacts.{ending_listed, ending_touched}
use Rattle.season_graph.proofs.RoundFacts.{average_stays, match_stays, row_stays}
use Rattle.season_graph.proofs.CupFacts.{tie_stays}
use Rattle.season_graph.proofs.TeamFacts.{total_kept}
use Rattle.season_nodes.proofs.RisingFacts.{players_same}

module _ (b d : SeasonFacts) (is_b : IsSeason b) (is_d : IsSeason d) (f : ℕ) (c : DifferInMark b d f) where
  mark_gameweek : (q g : ℕ) → IsKept b d (node.PlayerGw q g)
  mark_gameweek q g = (
    (λ i. is_some (player_of (c.players i) q) && (nat_le 1 g && nat_le g (c.calendar i).locked)),
    λ l. filter_local (has_line b q) (has_line d q) (standing b.calendar g) (λ k a. ap is_some (c.lines k q)) ∙ ap (λ x. filter (has_line d q) (standing x g)) c.calendar,
  )

  pub mark_listed : (n : Node) → IsKept b d n ⊎ Among (mark_nodes d f) n
  mark_listed (node.Line k q) = inl (ap is_some (c.lines k q), λ l. (c.lines k q, c.profile, ap (λ ps. position_in ps q) c.players))
  mark_listed (node.Bonus k) = ⊎_elim (λ i. inr (inl (ap node.Bonus (sym i)))) (λ n. let same = players_same b d is_b is_d k (λ q. ap is_some (c.lines k q)) in inl (some_lines b d k same, λ l. (same, c.marks k n))) (same_or_not k f)
  mark_listed (node.PlayerGw q g) = inl (mark_gameweek q g)
  mark_listed (node.TeamGw e g) = ⊎_elim inl (λ a. inr (inr a)) (ending_listed b d is_d f c.calendar c.players c.marks c.entries e g)
  mark_listed (node.Total e s) = inl (total_kept b d c.entries (ap (λ x. x.locked) c.calendar) c.leagues e s)
  mark_listed (node.Average l g) = inl (average_stays b d c.entries (ap (λ x. x.locked) c.calendar) c.leagues l g)
  mark_listed (node.Match l g i) = inl (match_stays b d c.entries (ap (λ x. x.locked) c.calendar) c.leagues l g i)
  mark_listed (node.HeadRow l e) = inl (row_stays b d c.entries (ap (λ x. x.locked) c.calendar) c.leagues l e)
  mark_listed (node.Tie k r i) = inl (tie_stays b d c.entries (ap (λ x. x.locked) c.calendar) k (λ x. bracket_in (c.cups x) k) r i)

  pub mark_touched : is_finished b.matches f ≢ is_finished d.matches f → (n : Node) → Among (mark_nodes d f) n → is_live d n ≡ true → IsTouched b d n
  mark_touched differs n (inl e) l = (l, subst (λ x. ¬ IsKept b d x) e (λ k. differs (k.1 (subst (λ x. is_live d x ≡ true) (sym e) l)).1))
  mark_touched differs n (inr a) l = ending_touched b d is_d f c.calendar c.players c.marks c.entries differs n a l

  -- the cells follow
  module _ (s t : State Node Value) (r : Refreshed (is_live d) (Among (mark_nodes d f)) s t) where
    pub mark_follows : Follows b d s t
    mark_follows sound = change_sound b d is_b is_d (mark_nodes d f) mark_listed s t sound r

    pub mark_marks : is_finished b.matches f ≢ is_finished d.matches f → MarksTouched b d s t
    mark_marks differs sound = change_exact b d is_b is_d (mark_nodes d f) mark_listed s t sound r (mark_touched differs)
