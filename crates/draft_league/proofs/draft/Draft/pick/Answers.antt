use Rattle.std.proofs.Common.{arith, ◌≡◌, ℕ, None, length, rules, ap, subst, sym}
use Rattle.std.proofs.lemmas.Grind.{common_steps}
use Rattle.draft_league.specs.Leagues.{League, turn}
use Rattle.draft_league.specs.Rules.{pick_refusal}
use Rattle.draft_league.specs.declared.kinds.Holding.{Holding}
use Rattle.draft_league.proofs.Keeping.{owners_apart, pick_leaves, squads_full}
use Rattle.draft_league.proofs.draft.Draft.pick.Goals as goal

pub invariant_of-self-2 : goal.invariant_of-self-2
invariant_of-self-2 c =
    let view : League = record { members = c.self.inside.members; drafted = c.self.inside.drafted.items; past = c.self.inside.past.items; waiting = c.self.inside.waiting.items; last = c.self.inside.last } in
    let none : pick_refusal c.args.self.now c.args.player c.args.position ≡ None = first_of (search rules, cc, grind (arith, common_steps)) in
    let member : c.turn-member.result ≡ turn view.members (length view.drafted) = first_of (search rules, cc, grind (arith, common_steps)) in
    pick_leaves view c.self.inside.held.items c.push_both.new.one.items c.push_both.new.other.items
    (record { player = c.args.player; position = c.args.position; member = c.turn-member.result }) c.args.player c.args.position c.self.invariant
    (subst (λ (l : League). pick_refusal l c.args.player c.args.position ≡ None) (sym c.self.view_is) none)
    c.in_ok-push_both.ensures.ok.0 c.in_ok-push_both.ensures.ok.1
    (ap (λ (m : ℕ). let one : Holding = record { player = c.args.player; position = c.args.position; member = m } in one) member)

pub returns-clause-owners : goal.returns-clause-owners
returns-clause-owners c =
    let view : League = record { members = c.self.inside.members; drafted = c.self.inside.drafted.items; past = c.self.inside.past.items; waiting = c.self.inside.waiting.items; last = c.self.inside.last } in
    let none : pick_refusal c.args.self.now c.args.player c.args.position ≡ None = first_of (search rules, cc, grind (arith, common_steps)) in
    let member : c.turn-member.result ≡ turn view.members (length view.drafted) = first_of (search rules, cc, grind (arith, common_steps)) in
    owners_apart _ c.push_both.new.other.items
    (pick_leaves view c.self.inside.held.items c.push_both.new.one.items c.push_both.new.other.items
    (record { player = c.args.player; position = c.args.position; member = c.turn-member.result }) c.args.player c.args.position c.self.invariant
    (subst (λ (l : League). pick_refusal l c.args.player c.args.position ≡ None) (sym c.self.view_is) none)
    c.in_ok-push_both.ensures.ok.0 c.in_ok-push_both.ensures.ok.1
    (ap (λ (m : ℕ). let one : Holding = record { player = c.args.player; position = c.args.position; member = m } in one) member))

pub returns-clause-squads : goal.returns-clause-squads
returns-clause-squads c =
    let view : League = record { members = c.self.inside.members; drafted = c.self.inside.drafted.items; past = c.self.inside.past.items; waiting = c.self.inside.waiting.items; last = c.self.inside.last } in
    let none : pick_refusal c.args.self.now c.args.player c.args.position ≡ None = first_of (search rules, cc, grind (arith, common_steps)) in
    let member : c.turn-member.result ≡ turn view.members (length view.drafted) = first_of (search rules, cc, grind (arith, common_steps)) in
    squads_full _ c.push_both.new.other.items
    (pick_leaves view c.self.inside.held.items c.push_both.new.one.items c.push_both.new.other.items
    (record { player = c.args.player; position = c.args.position; member = c.turn-member.result }) c.args.player c.args.position c.self.invariant
    (subst (λ (l : League). pick_refusal l c.args.player c.args.position ≡ None) (sym c.self.view_is) none)
    c.in_ok-push_both.ensures.ok.0 c.in_ok-push_both.ensures.ok.1
    (ap (λ (m : ℕ). let one : Holding = record { player = c.args.player; position = c.args.position; member = m } in one) member))
