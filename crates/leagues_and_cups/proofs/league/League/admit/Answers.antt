use Rattle.std.proofs.Common.{refl, ◌≡◌, ◌≢◌, ◌∙◌, ◌≤◌, true, false, length, ap, arith, rules}
use Rattle.std.specs.Prelude.{IsOk, nat_lt}
use Rattle.std.specs.List.{All, insert}
use Rattle.std.specs.List.Sorted.{IsPartitionPoint}
use Rattle.std.proofs.lemmas.Fn.{always_returns_same}
use Rattle.std.proofs.lemmas.Grind.{common_steps}
use Rattle.leagues_and_cups.specs.Books.{with_number}
use Rattle.leagues_and_cups.proofs.Members.{entered, no_member}
use Rattle.leagues_and_cups.proofs.Numbers.{parted, put_in_place}
use Rattle.leagues_and_cups.proofs.league.League.admit.Goals as goal

-- the place parts the smaller members from the greater ones
parts : (c : goal.After-insert) → IsPartitionPoint (λ m. nat_lt m c.args.e ≡ true) (λ m. nat_lt m c.args.e ≡ false) c.self.inside.members.items c.partition_point-place.result
parts c =
    rw c.deref.ensures.value at (c.partition_point-place.ensures.partitioned (λ y. nat_lt y c.args.e) (always_returns_same _ _ _ (λ a r g called. search rules)))
    (parted c.self.inside.members.items c.self.invariant.rise c.args.e)

-- the new member goes there, into the room that was made for it
placed : (c : goal.After-insert) → c.insert.new.self.items ≡ with_number c.args.e c.self.inside.members.items
placed c =
    let members = c.self.inside.members.items in
    let place = c.partition_point-place.result in
    let same : members ≡ c.args.self.now.members = ap (λ league. league.members) c.self.view_is in
    let new : All (λ m. m ≢ c.args.e) members = rw (← same) at (no_member c.args.self.now c.args.e c.requires.open.new) in
    let within : place ≤ length members = rw c.deref.ensures.value at c.partition_point-place.ensures.bound in
    let fits : IsOk c.insert.result = c.insert.ensures.succeeds (omega (arith, c.in_ok-reserve.ensures.ok)) in
    let old : c.reserve.new.self.items ≡ members = c.in_ok-reserve.ensures.items in
    let there : c.insert.new.self.items ≡ insert members place c.args.e = grind (arith, common_steps, fits, old, c.insert.ensures.items) in
    there ∙ put_in_place members c.args.e place within (parts c) new

pub invariant_of-self-2 : goal.invariant_of-self-2
invariant_of-self-2 c = rw (placed c) (entered _ c.args.e c.self.invariant (rw c.self.view_is c.requires.open))

pub returns-clause-ok : goal.returns-clause-ok
returns-clause-ok c = rw (placed c, ← c.self.view_is) refl
