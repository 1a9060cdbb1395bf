-- What cells hold of the points of entries is what their histories have.
use Rattle.std.proofs.Common.{◌≡◌, ◌∙◌, ℕ, Bool, true, false, Option, Some, None, pos, if◌then◌else◌, refl, ap}
use Rattle.std.specs.Option.{option_map_or}
use Rattle.rule_book.specs.declared.team_score.TeamScore.{TeamScore}
use Rattle.season_graph.specs.Told.{gameweek_score, net_told}
use Rattle.season_nodes.specs.Season.{SeasonFacts, is_live}
use Rattle.season_nodes.specs.declared.nodes.Node.TheVariants as node

held_case : (t : Bool) (score : TeamScore) → option_map_or (λ (s : TeamScore). s.net) (if t then Some score else None) (pos 0) ≡ (if t then score.net else pos 0)
held_case true score = refl
held_case false score = refl

-- the points that the cell of an entry's gameweek holds
pub net_held : (b : SeasonFacts) (e g : ℕ) (o : Option TeamScore) → o ≡ (if is_live b (node.TeamGw e g) then Some (gameweek_score b e g) else None)
    → option_map_or (λ (s : TeamScore). s.net) o (pos 0) ≡ net_told b e g
net_held b e g o is =
    ap (λ o. option_map_or (λ (s : TeamScore). s.net) o (pos 0)) is ∙ held_case (is_live b (node.TeamGw e g)) (gameweek_score b e g)
