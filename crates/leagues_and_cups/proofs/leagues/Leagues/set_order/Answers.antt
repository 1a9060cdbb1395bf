use Rattle.std.proofs.Common.{◌≡◌, ◌∙◌, ◌-◌, ap, Result, Ok, Err, ℕ, List, set, OnOk, OnErr}
use Rattle.rule_book.specs.LeagueCalls.{with_order}
use Rattle.rule_book.specs.Leagues.{LeagueFacts}
use Rattle.leagues_and_cups.proofs.Booked.{changed, booked_stay}
use Rattle.leagues_and_cups.proofs.leagues.Leagues.set_order.Goals as goal

-- the members stay in both cases
same_members : {X Y : Type 0} (r : Result X Y) (order : List ℕ) (new old : LeagueFacts) → OnOk r (new ≡ with_order order old) → OnErr r (new ≡ old) → new.members ≡ old.members
same_members (Ok x) order new old ok err = ap (λ (league : LeagueFacts). league.members) ok
same_members (Err y) order new old ok err = ap (λ (league : LeagueFacts). league.members) err

on_ok : {X Y P Q : Type 0} (r : Result X Y) → (P → Q) → OnOk r P → OnOk r Q
on_ok (Ok x) f p = f p
on_ok (Err y) f p = tt

pub invariant_of-self : goal.invariant_of-self
invariant_of-self c =
    let stay = same_members c.set_order.result c.args.order.now c.set_order.new.self c.index_mut.result.now c.set_order.ensures.ok c.set_order.ensures.err in
    booked_stay c.self.inside.leagues.items c.self.inside.memberships (c.get.result - 1) c.set_order.new.self c.index_mut.result.now
    (stay ∙ ap (λ (league : LeagueFacts). league.members) c.index_mut.ensures.value) c.self.invariant

pub returns-clause-ok : goal.returns-clause-ok
returns-clause-ok c =
    on_ok c.set_order.result (λ e.
    rw (← c.self.view_is, ← c.get.ensures.value) (ap (set c.self.inside.leagues.items (c.get.result - 1)) (e ∙ ap (with_order c.args.order.now) c.index_mut.ensures.value)
    ∙ changed (with_order c.args.order.now) c.self.inside.leagues.items c.get.result c.index_mut.result.now c.get.ensures.range))
    c.set_order.ensures.ok
