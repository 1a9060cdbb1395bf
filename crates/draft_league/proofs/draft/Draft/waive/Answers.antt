use Rattle.std.proofs.Common.{arith, ◌≡◌, None, rules, subst, sym}
use Rattle.std.proofs.lemmas.Grind.{common_steps}
use Rattle.draft_league.specs.Leagues.{League}
use Rattle.draft_league.specs.Rules.{waive_refusal}
use Rattle.draft_league.specs.Settling.{IsSettled}
use Rattle.draft_league.proofs.Keeping.{owners_apart, squads_full, waive_leaves}
use Rattle.draft_league.proofs.draft.Draft.waive.Goals as goal

pub invariant_of-self : goal.invariant_of-self
invariant_of-self c =
    let view : League = record { members = c.self.inside.members; drafted = c.self.inside.drafted.items; past = c.self.inside.past.items; waiting = c.self.inside.waiting.items; last = c.self.inside.last } in
    let none : waive_refusal c.args.self.now c.args.g ≡ None = first_of (search rules, cc, grind (arith, common_steps)) in
    waive_leaves view c.self.inside.held.items c.args.g c.in_ok-settled.settled c.self.invariant
    (subst (λ (l : League). waive_refusal l c.args.g ≡ None) (sym c.self.view_is) none)
    (subst (λ (l : League). IsSettled l c.args.g c.in_ok-settled.settled) (sym c.self.view_is) c.in_ok-settled.ensures)

pub returns-clause-owners : goal.returns-clause-owners
returns-clause-owners c =
    let view : League = record { members = c.self.inside.members; drafted = c.self.inside.drafted.items; past = c.self.inside.past.items; waiting = c.self.inside.waiting.items; last = c.self.inside.last } in
    let none : waive_refusal c.args.self.now c.args.g ≡ None = first_of (search rules, cc, grind (arith, common_steps)) in
    owners_apart _ c.in_ok-settled.settled.held.items
    (waive_leaves view c.self.inside.held.items c.args.g c.in_ok-settled.settled c.self.invariant
    (subst (λ (l : League). waive_refusal l c.args.g ≡ None) (sym c.self.view_is) none)
    (subst (λ (l : League). IsSettled l c.args.g c.in_ok-settled.settled) (sym c.self.view_is) c.in_ok-settled.ensures))

pub returns-clause-squads : goal.returns-clause-squads
returns-clause-squads c =
    let view : League = record { members = c.self.inside.members; drafted = c.self.inside.drafted.items; past = c.self.inside.past.items; waiting = c.self.inside.waiting.items; last = c.self.inside.last } in
    let none : waive_refusal c.args.self.now c.args.g ≡ None = first_of (search rules, cc, grind (arith, common_steps)) in
    squads_full _ c.in_ok-settled.settled.held.items
    (waive_leaves view c.self.inside.held.items c.args.g c.in_ok-settled.settled c.self.invariant
    (subst (λ (l : League). waive_refusal l c.args.g ≡ None) (sym c.self.view_is) none)
    (subst (λ (l : League). IsSettled l c.args.g c.in_ok-settled.settled) (sym c.self.view_is) c.in_ok-settled.ensures))
