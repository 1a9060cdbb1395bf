use Rattle.std.proofs.Common.{arith, ◌≡◌, ◌++◌, rules}
use Rattle.std.proofs.lemmas.Grind.{common_steps}
use Rattle.draft_league.specs.Leagues.{League, bids_after, bids_for, table_now}
use Rattle.draft_league.specs.Waivers.{after_all}
use Rattle.draft_league.proofs.Keeping.{settled_league, turns_stand}
use Rattle.draft_league.proofs.draft.Draft.settled.Goals as goal

pub settle-requires : goal.settle-requires
settle-requires c =
    let view : League = record { members = c.self.inside.members; drafted = c.self.inside.drafted.items; past = c.self.inside.past.items; waiting = c.self.inside.waiting.items; last = c.self.inside.last } in
    let table_is : c.follow_all.new.self ≡ table_now view = first_of (search rules, cc, grind (arith, common_steps)) in
    let bids_are : c.in_ok-bids.bids.items ≡ bids_for c.args.g view.waiting = first_of (search rules, cc, grind (arith, common_steps)) in
    rw (table_is, bids_are) (turns_stand view c.self.inside.held.items c.self.invariant c.args.g)

pub returns : goal.returns
returns c =
    let view : League = record { members = c.self.inside.members; drafted = c.self.inside.drafted.items; past = c.self.inside.past.items; waiting = c.self.inside.waiting.items; last = c.self.inside.last } in
    let outcomes = c.in_ok-outcomes.outcomes.items in
    let table_is : c.follow_all.new.self ≡ table_now view = first_of (search rules, cc, grind (arith, common_steps)) in
    let bids_are : c.in_ok-bids.bids.items ≡ bids_for c.args.g view.waiting = first_of (search rules, cc, grind (arith, common_steps)) in
    let does = rw (table_is, bids_are) at c.in_ok-outcomes.ensures.settled in
    let fair = rw table_is at c.in_ok-outcomes.ensures.fair in
    let past_is : c.in_ok-past.past.items ≡ view.past ++ outcomes = first_of (search rules, cc, grind (arith, common_steps)) in
    let waiting_is : c.in_ok-waiting.waiting.items ≡ bids_after c.args.g view.waiting = first_of (search rules, cc, grind (arith, common_steps)) in
    let now_is : c.into_held.result.items ≡ (after_all (table_now view) outcomes).held = first_of (search rules, cc, grind (arith, common_steps)) in
    let left = settled_league view c.self.inside.held.items c.into_held.result.items c.args.g outcomes c.self.invariant fair now_is in
    rw (← c.self.view_is) (record { outcomes = does; past = past_is; waiting = waiting_is; held = left.0; fair = rw past_is left.1 })
