-- Facts that differ in nothing that a node hangs on keep all nodes.
use Rattle.std.proofs.Common.{◌≡◌, ℕ, ◌&&◌, nat_le, true, false, ◌⊎◌, inl, ⊎_elim, [], Option, Some, None, is_some, refl, sym, ◌∙◌, ap}
use Rattle.std.specs.List.{filter, list_all}
use Rattle.std.specs.Option.{option_map, option_map_or, unwrap_or}
use Rattle.fpl_base.specs.declared.kinds.Position.{Position}
use Rattle.fpl_base.specs.declared.kinds.Position.TheVariants.{Keeper}
use Rattle.rule_book.specs.declared.player.Player.{Player}
use Rattle.rule_book.specs.Calendar.{standing}
use Rattle.rule_book.specs.MatchFacts.{line_of}
use Rattle.rule_book.specs.PlayerFigures.{position_in}
use Rattle.rule_book.specs.Players.{player_of}
use Rattle.rescore_graph.specs.Graph.{Among}
use Rattle.rescore_graph.specs.States.{State}
use Rattle.season_graph.specs.Changes.{AreAlike, Follows, IsKept, MarksTouched}
use Rattle.season_nodes.specs.declared.nodes.Node.{Node}
use Rattle.season_nodes.specs.declared.nodes.Node.TheVariants as node
use Rattle.season_nodes.specs.declared.nodes.Value.{Value}
use Rattle.season_nodes.specs.Season.{SeasonFacts, IsSeason, has_line, is_live}
use Rattle.season_nodes.specs.Reading.{filter_local}
use Rattle.season_nodes.proofs.RisingFacts.{players_same}
use Rattle.season_graph.proofs.ChangedFacts.{change_exact, change_sound, some_lines}
use Rattle.season_graph.proofs.RefreshedFacts.{refreshed_nothing}
use Rattle.season_graph.proofs.RoundFacts.{average_stays, match_stays, row_stays}
use Rattle.season_graph.proofs.CupFacts.{tie_stays}
use Rattle.season_graph.proofs.TeamFacts.{team_kept, total_kept}

clash : true ≡ false → ⊥
clash e = cc

abbrev place : Option Player → Option Position
place o = option_map (λ x. x.position) o

place_or : (o : Option Player) → option_map_or (λ x. x.position) o Keeper ≡ unwrap_or (place o) Keeper
place_or None = refl
place_or (Some x) = refl

module _ (b d : SeasonFacts) (c : AreAlike b d) where
  position_same : (f q : ℕ) → is_some (line_of b.matches f q) ≡ true → position_in b.players q ≡ position_in d.players q
  position_same f q has = place_or (player_of b.players q) ∙ ap (λ o. unwrap_or o Keeper) (c.positions f q has) ∙ sym (place_or (player_of d.players q))

  module _ (is_b : IsSeason b) (is_d : IsSeason d) where
    alike_kept : (n : Node) → IsKept b d n ⊎ Among [] n
    alike_kept (node.Line f p) = inl (ap is_some (c.lines f p), λ l. (c.lines f p, c.profile, position_same f p (ap is_some (c.lines f p) ∙ l)))
    alike_kept (node.Bonus f) = let same = players_same b d is_b is_d f (λ q. ap is_some (c.lines f q)) in inl (some_lines b d f same, λ l. (same, c.marks f))
    alike_kept (node.PlayerGw p g) = inl (
      (λ i. c.there p i && (nat_le 1 g && nat_le g (c.locked i))),
      λ l. filter_local (has_line b p) (has_line d p) (standing b.calendar g) (λ f a. ap is_some (c.lines f p)) ∙ ap (filter (has_line d p)) (c.stand g),
    )
    alike_kept (node.TeamGw e g) = inl (team_kept b d c.entries e g (ap (nat_le g) c.locked) (λ i. list_all (λ f. c.marks f i) (c.stand g i)) (λ q a. c.there q))
    alike_kept (node.Total e s) = inl (total_kept b d c.entries c.locked c.leagues e s)
    alike_kept (node.Average l g) = inl (average_stays b d c.entries c.locked c.leagues l g)
    alike_kept (node.Match l g i) = inl (match_stays b d c.entries c.locked c.leagues l g i)
    alike_kept (node.HeadRow l e) = inl (row_stays b d c.entries c.locked c.leagues l e)
    alike_kept (node.Tie k r i) = inl (⊎_elim
        (λ same. tie_stays b d c.entries c.locked k same r i)
        (λ idle. let none = idle r i in (none.0 ∙ sym none.1, λ live. absurd (clash (sym live ∙ none.1))))
        (c.cups k))

    pub alike_follows : (s : State Node Value) → Follows b d s s
    alike_follows s sound = change_sound b d is_b is_d [] alike_kept s s sound (refreshed_nothing (is_live d) s)

    pub alike_marks : (s : State Node Value) → MarksTouched b d s s
    alike_marks s sound = change_exact b d is_b is_d [] alike_kept s s sound (refreshed_nothing (is_live d) s) (λ n a. absurd a)
