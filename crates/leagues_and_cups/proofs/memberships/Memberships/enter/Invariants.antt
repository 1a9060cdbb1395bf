use Rattle.std.proofs.Common.{◌≡◌, ℕ, take}
use Rattle.leagues_and_cups.specs.Books.{row_entered, row_of}
use Rattle.leagues_and_cups.proofs.memberships.Memberships.enter.Given as goal

abbrev pub invariant-loop-e : goal.invariant-loop-e
invariant-loop-e l = (e : ℕ) → row_of l.self e ≡ row_entered (take l.e-index l.members) l.l l.fn.self e
