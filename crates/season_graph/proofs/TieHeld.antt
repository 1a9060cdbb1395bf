-- What the cell of a tie holds.
use Rattle.std.proofs.Common.{◌≡◌, ℕ, Bool, true, false, if◌then◌else◌, Option, Some, None, refl, sym, ◌∙◌, ap}
use Rattle.std.specs.Prelude.{IsSome}
use Rattle.rescore_graph.specs.declared.cells.Slot.{Slot}
use Rattle.rescore_graph.specs.States.{State, value_of, values_in}
use Rattle.season_nodes.specs.declared.nodes.Node.{Node}
use Rattle.season_nodes.specs.declared.nodes.Node.TheVariants as node
use Rattle.season_nodes.specs.declared.nodes.Value.{Value}
use Rattle.season_nodes.specs.Season.{SeasonFacts, is_live, winner_held}
use Rattle.season_graph.specs.Evaluated.{IsEvaluated}
use Rattle.season_graph.specs.Told.{tie_told}

clash : true ≡ false → ⊥
clash e = cc

no_cell : {V : Type 0} (o : Option (Slot V)) → (IsSome o → ⊥) → o ≡ None
no_cell None never = refl
no_cell (Some x) never = absurd (never refl)

tie_case : (b : SeasonFacts) (s : State Node Value) (c r i : ℕ) (t : Bool) → is_live b (node.Tie c r i) ≡ t → IsEvaluated b s
    → winner_held (values_in s (node.Tie c r i)) ≡ (if t then tie_told b c r i else 0)
tie_case b s c r i true live e = ap winner_held (e.told (node.Tie c r i) live)
tie_case b s c r i false dead e =
    ap (λ o. winner_held (value_of o)) (no_cell (s (node.Tie c r i)) (λ some. clash (sym ((e.cells (node.Tie c r i)).0 some) ∙ dead)))

-- who goes on, where the tie is live; and nobody where it is not
pub tie_holds : (b : SeasonFacts) (s : State Node Value) (c r i : ℕ) → IsEvaluated b s
    → winner_held (values_in s (node.Tie c r i)) ≡ (if is_live b (node.Tie c r i) then tie_told b c r i else 0)
tie_holds b s c r i e = tie_case b s c r i (is_live b (node.Tie c r i)) refl e
