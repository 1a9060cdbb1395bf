-- What ties of cups come to: who wins them by the rule book, by what the entries scored.
use Rattle.std.specs.Prelude.{◌≡◌, ℕ, suc, true, Option, Some}
use Rattle.rule_book.specs.Cups.{winner}
use Rattle.season_nodes.specs.declared.nodes.Node.{Node}
use Rattle.season_nodes.specs.declared.nodes.Node.TheVariants as node
use Rattle.season_nodes.specs.declared.nodes.Value.{Value}
use Rattle.season_nodes.specs.Season.{SeasonFacts, bracket_of, is_live, own_value, side_by, tie_by}

-- each live tie holds its own value
abbrev pub TiesHoldTheirOwn : SeasonFacts → (Node → Option Value) → Type 0
TiesHoldTheirOwn b v = (c r i : ℕ) → is_live b (node.Tie c r i) ≡ true → v (node.Tie c r i) ≡ Some (own_value b (node.Tie c r i) v)

-- then who goes on from a live tie wins it
abbrev pub TiesAreTold : Type 0
TiesAreTold = (b : SeasonFacts) (v : Node → Option Value) → TiesHoldTheirOwn b v → (c r i : ℕ)
    → is_live b (node.Tie c r i) ≡ true → tie_by b v c r i ≡ winner (bracket_of b c) (side_by b v) (suc r) i
