use Rattle.std.proofs.Common.{◌≡◌, ◌≢◌, ◌∙◌, ◌≤◌, ap, length, rules}
use Rattle.std.specs.Prelude.{nat_lt, true, false}
use Rattle.std.specs.List.{All}
use Rattle.std.specs.List.Sorted.{IsPartitionPoint}
use Rattle.std.proofs.lemmas.Fn.{always_returns_same}
use Rattle.leagues_and_cups.specs.Books.{with_number}
use Rattle.leagues_and_cups.proofs.Numbers.{parted, put_in_place, still_rise}
use Rattle.leagues_and_cups.proofs.memberships.Numbers.add.Goals as goal

within : (c : goal.In_ok-insert) → c.partition_point-place.result ≤ length c.self.inside.items.items
within c = rw (← c.deref.ensures.value) c.partition_point-place.ensures.bound

-- the place parts the smaller numbers from the greater ones
parts : (c : goal.In_ok-insert) → IsPartitionPoint (λ m. nat_lt m c.args.l ≡ true) (λ m. nat_lt m c.args.l ≡ false) c.self.inside.items.items c.partition_point-place.result
parts c =
    rw c.deref.ensures.value at (c.partition_point-place.ensures.partitioned (λ y. nat_lt y c.args.l) (always_returns_same _ _ _ (λ a r g called. search rules)))
    (parted c.self.inside.items.items c.self.invariant c.args.l)

new : (c : goal.In_ok-insert) → All (λ n. n ≢ c.args.l) c.self.inside.items.items
new c = rw c.self.view_is c.requires.new

pub invariant_of-self-2 : goal.invariant_of-self-2
invariant_of-self-2 c = rw c.in_ok-insert.ensures.items (still_rise c.self.inside.items.items c.args.l c.partition_point-place.result (within c) (parts c) (new c) c.self.invariant)

pub returns-clause-ok : goal.returns-clause-ok
returns-clause-ok c =
    c.in_ok-insert.ensures.items ∙ (put_in_place c.self.inside.items.items c.args.l c.partition_point-place.result (within c) (parts c) (new c) ∙ ap (with_number c.args.l) c.self.view_is)
