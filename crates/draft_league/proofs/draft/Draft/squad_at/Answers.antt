use Rattle.std.proofs.Common.{arith, ◌≡◌, true, rules, subst, sym}
use Rattle.std.proofs.lemmas.Grind.{common_steps}
use Rattle.draft_league.specs.Kept.{IsMember}
use Rattle.draft_league.specs.Leagues.{League, held_at, is_over}
use Rattle.draft_league.specs.Squads.{players_in}
use Rattle.draft_league.proofs.HoldingLemmas.{squad_differs}
use Rattle.draft_league.proofs.Keeping.{owners_apart, squad_of_fifteen, squads_full}
use Rattle.draft_league.proofs.draft.Draft.squad_at.Goals as goal

pub squad_of-requires : goal.squad_of-requires
squad_of-requires c =
    let view : League = record { members = c.self.inside.members; drafted = c.self.inside.drafted.items; past = c.self.inside.past.items; waiting = c.self.inside.waiting.items; last = c.self.inside.last } in
    let over : is_over c.args.self.now ≡ true = first_of (search rules, cc, grind (arith, common_steps)) in
    let own : IsMember c.args.self.now.members c.args.member = first_of (search rules, cc, grind (arith, common_steps)) in
    let held_is : c.held.result.now ≡ held_at view c.args.g = first_of (search rules, cc, grind (arith, common_steps)) in
    rw held_is (squad_of_fifteen view c.self.inside.held.items c.self.invariant (subst (λ (l : League). is_over l ≡ true) (sym c.self.view_is) over) c.args.g c.args.member
    (subst (λ (l : League). IsMember l.members c.args.member) (sym c.self.view_is) own))

pub returns-clause-apart : goal.returns-clause-apart
returns-clause-apart c =
    let view : League = record { members = c.self.inside.members; drafted = c.self.inside.drafted.items; past = c.self.inside.past.items; waiting = c.self.inside.waiting.items; last = c.self.inside.last } in
    let is : c.in_ok-squad.squad ≡ players_in (held_at view c.args.g) c.args.member = first_of (search rules, cc, grind (arith, common_steps)) in
    rw is (squad_differs (held_at view c.args.g) c.args.member ((owners_apart view c.self.inside.held.items c.self.invariant).at c.args.g))

pub returns-clause-squads : goal.returns-clause-squads
returns-clause-squads c = rw (← c.self.view_is) (squads_full _ c.self.inside.held.items c.self.invariant)

pub returns-in_err-standing-clause-squads : goal.returns-in_err-standing-clause-squads
returns-in_err-standing-clause-squads c = rw (← c.self.view_is) (squads_full _ c.self.inside.held.items c.self.invariant)

pub returns-in_err-follow_up_to-clause-squads : goal.returns-in_err-follow_up_to-clause-squads
returns-in_err-follow_up_to-clause-squads c = rw (← c.self.view_is) (squads_full _ c.self.inside.held.items c.self.invariant)

pub returns-in_err-squad-clause-squads : goal.returns-in_err-squad-clause-squads
returns-in_err-squad-clause-squads c = rw (← c.self.view_is) (squads_full _ c.self.inside.held.items c.self.invariant)
