-- One where a test holds.
use Rattle.std.specs.Prelude.{ℕ, Bool, cond}

abbrev pub one_if : Bool → ℕ
one_if holds = cond holds 1 0
