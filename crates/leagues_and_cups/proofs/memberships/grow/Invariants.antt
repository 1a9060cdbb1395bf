use Rattle.std.proofs.Common.{◌≡◌, ℕ, ◌-◌}
use Rattle.std.specs.Prelude.{vec_len}
use Rattle.leagues_and_cups.specs.Books.{row_of}
use Rattle.leagues_and_cups.proofs.memberships.grow.Given as goal

abbrev pub invariant-loop-alloc : goal.invariant-loop-alloc
invariant-loop-alloc l = (e : ℕ) → row_of l.rows.items e ≡ row_of l.fn.rows.items e

abbrev pub decreases-loop-alloc : goal.decreases-loop-alloc
decreases-loop-alloc l = l.count - vec_len l.rows
