-- What is due is one thing.
use Rattle.std.specs.Prelude.{◌≡◌, ℕ, List}
use Rattle.fpl_base.specs.declared.kinds.Profile.{Profile}
use Rattle.fpl_run.specs.Run.{IsScoreDue}

-- for the bytes of a match one status and one text are due
abbrev pub OneScoreDue : Type 0
OneScoreDue = (profile : Profile) (bytes : List ℕ) (s t : ℕ) (x y : List ℕ) → IsScoreDue profile bytes s x → IsScoreDue profile bytes t y → (s ≡ t) × (x ≡ y)
