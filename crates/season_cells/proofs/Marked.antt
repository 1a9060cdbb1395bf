-- What a change call leaves, as what a plan marks.
use Rattle.std.proofs.Common.{◌≡◌, inl, inr, ⊎_elim, true, List, Option, None, Some, IsSome, OnOk, Result, Ok, Err, refl, ◌∙◌, ap}
use Rattle.rescore_graph.specs.declared.cells.Slot.{Slot}
use Rattle.rescore_graph.specs.Graph.{Among}
use Rattle.rescore_graph.specs.States.{State, raise}
use Rattle.season_graph.specs.Changes.{EntriesStay, Follows, MarksTouched}
use Rattle.season_graph.specs.Refreshed.{Refreshed, refreshed}
use Rattle.season_nodes.specs.Season.{SeasonFacts, is_live}
use Rattle.season_nodes.specs.declared.nodes.Node.{Node}
use Rattle.season_nodes.specs.declared.nodes.Value.{Value}
use Rattle.season_cells.specs.Correcting.{AreRaised}
use Rattle.season_cells.specs.Leading.{DifferAs}
use Rattle.season_cells.specs.declared.plan.Plan.{Plan}
use Rattle.season_cells.specs.declared.plan.Plan.TheVariants as plan

-- three clauses of one call
pub ok_three : {T E A B C D : Type 0} (r : Result T E) → OnOk r A → OnOk r B → OnOk r C → (A → B → C → D) → OnOk r D
ok_three (Ok x) a b c f = f a b c
ok_three (Err e) a b c f = tt

raised_case : (x : Option (Slot Value)) → IsSome x → refreshed true x ≡ raise x
raised_case None there = absurd (none there)
  where
    none : IsSome {T = Slot Value} None → ⊥
    none e = cc
raised_case (Some c) there = refl

pub marked_by : (b d : SeasonFacts) (s t : State Node Value) (ns : List Node) → Refreshed (is_live d) (Among ns) s t → Follows b d s t → MarksTouched b d s t → AreRaised b d s t
marked_by b d s t ns fresh follows touched = record {
  follows = follows;
  touched = touched;
  raised = λ n live there. ⊎_elim
      (λ p. inr (p.1 ∙ ap (λ l. refreshed l (s n)) live ∙ raised_case (s n) there))
      (λ p. inl p.1)
      (fresh n);
}

-- what a plan leaves: as many gameweeks are locked, and the entries are as they were in them
pub still : (b d : SeasonFacts) (made : Plan) → DifferAs b d made → (b.calendar.locked ≡ d.calendar.locked) × EntriesStay b d
still b d plan.Nothing c = (c.locked, c.entries)
still b d (plan.Player p) c = (ap (λ x. x.locked) c.calendar, c.entries)
still b d (plan.Place f from to) c = (c.0.locked, c.0.entries)
still b d (plan.Line f p) c = (ap (λ x. x.locked) c.0.calendar, c.0.entries)
still b d (plan.Mark f) c = (ap (λ x. x.locked) c.0.calendar, c.0.entries)
still b d (plan.Sheet f players marked) c = (ap (λ x. x.locked) c.0.calendar, c.0.entries)
still b d (plan.League l) c = (ap (λ x. x.locked) c.calendar, c.entries)
