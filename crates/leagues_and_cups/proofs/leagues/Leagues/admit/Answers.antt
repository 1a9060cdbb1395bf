use Rattle.std.proofs.Common.{◌≡◌, ◌∙◌, ◌≤◌, ◌-◌, ap, get_or, set}
use Rattle.rule_book.specs.LeagueCalls.{with_member}
use Rattle.leagues_and_cups.specs.Books.{CanEnter}
use Rattle.leagues_and_cups.proofs.Booked.{there, changed, joined_is_new, booked_join}
use Rattle.leagues_and_cups.proofs.leagues.Leagues.admit.Goals as goal
use Rattle.leagues_and_cups.proofs.leagues.Leagues.admit.Goals.{In_ok-admit}

-- the league is new to the entry, which can enter it
pub admit-requires-clause-new : goal.admit-requires-clause-new
admit-requires-clause-new c =
    let now = c.index_mut-league.result.now in
    let from_1 : 1 ≤ c.args.l = rw c.get.ensures.value at c.get.ensures.range in
    let can = there (λ league. CanEnter league c.args.e) c.self.inside.leagues.items c.args.l from_1 (rw c.self.view_is c.requires.open) in
    joined_is_new c.self.inside.leagues.items c.self.inside.memberships c.self.invariant c.args.e c.args.l now from_1 can.0 (can.1 now).new

-- the league with its new member stands in the place of the old one
written : (c : In_ok-admit) → set c.self.inside.leagues.items (c.args.l - 1) c.admit.new.self ≡ set c.self.inside.leagues.items (c.args.l - 1) (with_member c.args.e (get_or c.self.inside.leagues.items (c.args.l - 1) c.index_mut-league.result.now))
written c =
    let now = c.index_mut-league.result.now in
    let here : now ≡ get_or c.self.inside.leagues.items (c.args.l - 1) now = rw c.get.ensures.value at c.index_mut-league.ensures.value in
    ap (set c.self.inside.leagues.items (c.args.l - 1)) (c.in_ok-admit.ensures.ok ∙ ap (with_member c.args.e) here)

pub invariant_of-self-2 : goal.invariant_of-self-2
invariant_of-self-2 c =
    let now = c.index_mut-league.result.now in
    let from_1 : 1 ≤ c.args.l = rw c.get.ensures.value at c.get.ensures.range in
    let can = there (λ league. CanEnter league c.args.e) c.self.inside.leagues.items c.args.l from_1 (rw c.self.view_is c.requires.open) in
    rw (c.get.ensures.value, written c) (booked_join c.self.inside.leagues.items c.self.inside.memberships c.self.invariant c.args.e c.admit.new.memberships c.args.l c.in_ok-admit.ensures.added
    c.in_ok-admit.ensures.others now from_1 can.0 (can.1 now).new)

pub returns-clause-ok : goal.returns-clause-ok
returns-clause-ok c =
    let from_1 : 1 ≤ c.args.l = rw c.get.ensures.value at c.get.ensures.range in
    rw (c.get.ensures.value, ← c.self.view_is) (written c ∙ changed (with_member c.args.e) c.self.inside.leagues.items c.args.l c.index_mut-league.result.now from_1)
