-- The moments that a clock tells.
use Rattle.std.specs.Prelude.{◌≡◌, ℕ, List, [], ◌∷◌, Option, Some, None}

-- what a clock has left: the moment that it tells next, and those behind it
pub record Moments : Type 0 where
  pub next : ℕ
  pub behind : List ℕ

-- the first of those behind is the next, and the last moment stays
abbrev pub or_the_last : ℕ → List ℕ → Moments
or_the_last last [] = record { next = last; behind = [] }
or_the_last last (t ∷ more) = record { next = t; behind = more }

-- what is left once the next moment was told
abbrev pub after_one : Moments → Moments
after_one moments = or_the_last moments.next moments.behind

-- a clock told this moment; one that does not tell what it has left never does
abbrev pub Tells : Option Moments → ℕ → Option Moments → Type 0
Tells None moment after = after ≡ None
Tells (Some moments) moment after = (moment ≡ moments.next) × (after ≡ Some (after_one moments))
