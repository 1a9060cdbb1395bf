use Rattle.std.proofs.Common.{◌≡◌, ◌++◌, ◌∷◌, [], arith}
use Rattle.std.specs.Prelude.{IsOk}
use Rattle.std.proofs.lemmas.Grind.{common_steps}
use Rattle.leagues_and_cups.proofs.Booked.{next_is_new, booked_add}
use Rattle.leagues_and_cups.proofs.leagues.Leagues.add.Goals as goal

-- the next number is new to the entry
pub add-requires : goal.add-requires
add-requires c = record { new = next_is_new c.self.inside.leagues.items c.self.inside.memberships c.self.invariant c.args.e c.args.l (rw c.self.view_is c.requires.next) }

-- the league goes into the room that was made for it
pushed : (c : goal.Joined-push) → c.push.new.self.items ≡ c.self.inside.leagues.items ++ c.args.league ∷ []
pushed c =
    let fits : IsOk c.push.result = c.push.ensures.succeeds (omega (arith, c.in_ok-reserve.ensures.ok)) in
    let old : c.reserve.new.self.items ≡ c.self.inside.leagues.items = c.in_ok-reserve.ensures.items in
    grind (arith, common_steps, fits, old, c.push.ensures.items)

pub invariant_of-self-2 : goal.invariant_of-self-2
invariant_of-self-2 c =
    rw (pushed c) (booked_add c.self.inside.leagues.items c.self.inside.memberships c.self.invariant c.args.e c.add.new.self c.args.l c.in_ok-add.ensures.ok c.in_ok-add.ensures.others
    c.args.league (rw c.self.view_is c.requires.room) (rw c.self.view_is c.requires.next) c.requires.alone)
