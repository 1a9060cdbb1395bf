-- Cells in which each live node was planted and nothing else are sound.
use Rattle.std.proofs.Common.{◌≡◌, ℕ, ◌<◌, ◌≤◌, Bool, true, false, ◌&&◌, ◌==◌, cond, nat_le, nat_lt, ◌⊎◌, inl, inr, ⊎_elim, List, [], ◌∷◌, ◌++◌, Option, Some, None, is_some, length, refl, sym, ◌∙◌, ap, arith}
use Rattle.std.specs.Map.{keys_of}
use Rattle.std.specs.Option.{unwrap_or}
use Rattle.std.proofs.lemmas.Bool.Decides.{nat_tests}
use Rattle.rule_book.specs.ById.{at_id}
use Rattle.rule_book.specs.MatchFacts.{MatchFacts, Sheet, bare_sheet, lines_of}
use Rattle.rule_book.specs.Players.{player_of}
use Rattle.rescore_graph.specs.declared.cells.Slot.{Slot}
use Rattle.rescore_graph.specs.Graph.{Among}
use Rattle.rescore_graph.specs.States.{State, is_dirty}
use Rattle.rescore_graph.specs.Settling.{Sound}
use Rattle.season_nodes.specs.declared.nodes.Node.{Node}
use Rattle.season_nodes.specs.declared.nodes.Node.TheVariants as node
use Rattle.season_nodes.specs.declared.nodes.Value.{Value}
use Rattle.season_nodes.specs.Reading.{among_left, among_right, to_flat, to_map}
use Rattle.season_graph.specs.Refreshed.{refreshed, Refreshed}
use Rattle.season_nodes.specs.Rounds.{order_in}
use Rattle.season_nodes.specs.Season.{SeasonFacts, is_live, players_of, round_of, season_graph}
use Rattle.season_nodes.specs.SeasonLaws.{first_true, has_listed, has_some, second_true, total_alive}
use Rattle.season_graph.specs.Touched.{all_nodes, cups_since, fixture_nodes, fixtures_nodes, head_nodes, heads_nodes, locked_scores}
use Rattle.season_graph.proofs.CupFacts.{tie_since}
use Rattle.season_graph.proofs.GameweekFacts.{numbered_among}
use Rattle.season_graph.proofs.LockFacts.{locked_among, locked_team, locked_total}
use Rattle.season_graph.proofs.RoundFacts.{average_drawn, average_head, match_drawn, match_head, numbered_league, row_drawn, row_head}
use Rattle.season_graph.proofs.TeamFacts.{team_alive}

clash : true ≡ false → ⊥
clash e = cc

same_id : (m n : ℕ) → (m == n) ≡ true → m ≡ n
same_id m n e = grind (arith, nat_tests)

at_case : (t : Bool) (sheet : Sheet) (rest : Option Sheet) → nat_lt 0 (length (unwrap_or (cond t (Some sheet) rest) bare_sheet).lines) ≡ true
    → (t ≡ true) ⊎ (nat_lt 0 (length (unwrap_or rest bare_sheet).lines) ≡ true)
at_case true sheet rest e = inl refl
at_case false sheet rest e = inr e

-- a fixture that has a line has facts
with_lines : (facts : MatchFacts) (f : ℕ) → nat_lt 0 (length (lines_of facts f)) ≡ true → Among (keys_of facts) f
with_lines [] f e = absurd (clash (sym e))
with_lines (row ∷ rows) f e = ⊎_elim
    (λ t. inl (same_id row.0 f t))
    (λ r. inr (with_lines rows f r))
    (at_case (row.0 == f) row.1 (at_id rows f) e)

from_1 : (g : ℕ) → nat_le 1 g ≡ true → 0 < g
from_1 g e = grind (arith, nat_tests)

above_0 : (s n : ℕ) → 1 ≤ s → s ≤ n → 0 < n
above_0 s n low high = omega arith

from_0 : (n : ℕ) → 0 ≤ n
from_0 n = omega arith

module _ (b : SeasonFacts) where
  in_tables : (n : Node) → Among ((fixtures_nodes b ++ locked_scores b 0) ++ heads_nodes b) n → Among (all_nodes b) n
  in_tables n a = among_left ((fixtures_nodes b ++ locked_scores b 0) ++ heads_nodes b) (cups_since b 0) n a

  in_fixture : (f : ℕ) (n : Node) → nat_lt 0 (length (lines_of b.matches f)) ≡ true → Among (fixture_nodes b f) n → Among (all_nodes b) n
  in_fixture f n e a =
      in_tables n (among_left (fixtures_nodes b ++ locked_scores b 0) (heads_nodes b) n
      (among_left (fixtures_nodes b) (locked_scores b 0) n (to_flat (fixture_nodes b) (keys_of b.matches) f n (with_lines b.matches f e) a)))

  in_scores : (n : Node) → Among (locked_scores b 0) n → Among (all_nodes b) n
  in_scores n a = in_tables n (among_left (fixtures_nodes b ++ locked_scores b 0) (heads_nodes b) n (among_right (fixtures_nodes b) (locked_scores b 0) n a))

  in_league : (l : ℕ) (n : Node) → 0 < length (order_in b.leagues l) → Among (head_nodes b l) n → Among (all_nodes b) n
  in_league l n some a =
      let number = numbered_league b l some in
      in_tables n (among_right (fixtures_nodes b ++ locked_scores b 0) (heads_nodes b) n (numbered_among (head_nodes b) (length b.leagues) l n number.0 number.1 a))

  -- each live node is one of the season
  pub live_among : (n : Node) → is_live b n ≡ true → Among (all_nodes b) n
  live_among (node.Line f p) l = in_fixture f (node.Line f p) (has_some (lines_of b.matches f) p l) (inr (to_map (node.Line f) (players_of b f) p (has_listed (lines_of b.matches f) p l)))
  live_among (node.Bonus f) l = in_fixture f (node.Bonus f) l (inl refl)
  live_among (node.PlayerGw p g) l = in_scores (node.PlayerGw p g)
      (locked_among b 0 p g (from_0 b.calendar.locked)
      (from_1 g (first_true (nat_le 1 g) (nat_le g b.calendar.locked) (second_true (is_some (player_of b.players p)) (nat_le 1 g && nat_le g b.calendar.locked) l))) l)
  live_among (node.TeamGw e g) l = in_scores (node.TeamGw e g) (locked_team b 0 e g (from_0 b.calendar.locked) (from_1 g (team_alive b e g l).2) l)
  live_among (node.Total e s) l = let alive = total_alive b e s l in in_scores (node.Total e s) (locked_total b 0 e s (above_0 s b.calendar.locked alive.2 alive.3) l)
  live_among (node.Average l g) live = in_league l (node.Average l g) (average_drawn b l g live) (average_head b l g live)
  live_among (node.Match l g i) live = in_league l (node.Match l g i) (match_drawn b l g i live) (match_head b l g i live)
  live_among (node.HeadRow l e) live = in_league l (node.HeadRow l e) (row_drawn b l e live) (row_head b l e live)
  live_among (node.Tie c r i) live =
      among_right ((fixtures_nodes b ++ locked_scores b 0) ++ heads_nodes b) (cups_since b 0) (node.Tie c r i) (tie_since b c r i 0 (from_0 (round_of b c r)) live)

-- a cell that was planted where its node is live
planted_some : (l : Bool) (o : Option (Slot Value)) → o ≡ refreshed l None → is_some o ≡ l
planted_some true o e = ap is_some e
planted_some false o e = ap is_some e

planted_dirty : (l : Bool) (o : Option (Slot Value)) → o ≡ refreshed l None → l ≡ true → is_dirty o ≡ true
planted_dirty true o e l = ap is_dirty e
planted_dirty false o e l = absurd (clash (sym l))

dead_none : (l : Bool) (o : Option (Slot Value)) → (l ≡ true → ⊥) → o ≡ None → o ≡ refreshed l None
dead_none true o dead e = absurd (dead refl)
dead_none false o _ e = e

-- from no cells
pub whole_sound : (b : SeasonFacts) (ns : List Node) → ((n : Node) → is_live b n ≡ true → Among ns n) → (s t : State Node Value) → ((n : Node) → s n ≡ None) → Refreshed (is_live b) (Among ns) s t → Sound (season_graph b) t
whole_sound b ns all s t empty r = record {
  cells = λ n. let e = planted_some (is_live b n) (t n) (planted_at n) in ((λ y. sym e ∙ y), (λ l. e ∙ l));
  inputs = λ n m l c a. absurd (clash (sym (planted_dirty (is_live b n) (t n) (planted_at n) l) ∙ c));
  value = λ n l c. absurd (clash (sym (planted_dirty (is_live b n) (t n) (planted_at n) l) ∙ c));
}
  where
    planted_at : (n : Node) → t n ≡ refreshed (is_live b n) None
    planted_at n = ⊎_elim
        (λ a. a.1 ∙ ap (refreshed (is_live b n)) (empty n))
        (λ a. dead_none (is_live b n) (t n) (λ l. a.0 (all n l)) (a.1 ∙ empty n))
        (r n)
