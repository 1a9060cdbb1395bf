-- Files that are known by their names.
use Rattle.std.specs.Prelude.{ℕ, ◌+◌, Bool, false, true, not, ◌||◌, if◌then◌else◌, List, [], ◌∷◌}
use Rattle.std.specs.Str.{bytes_eq}
use Rattle.fpl_base.specs.Causes.{one_more}
use Rattle.test_doubles.specs.Plans.{Planned, fails_next}

-- a file has this name
abbrev pub has_file : List (List ℕ × List ℕ) → List ℕ → Bool
has_file [] name = false
has_file (file ∷ files) name = if bytes_eq file.0 name then true else has_file files name

-- the bytes of the first file of a name, none where no file has it
abbrev pub bytes_of : List (List ℕ × List ℕ) → List ℕ → List ℕ
bytes_of [] name = []
bytes_of (file ∷ files) name = if bytes_eq file.0 name then file.1 else bytes_of files name

-- files that are read by calls of which some fail, and how many calls failed because no file had the name
pub record PlannedShelf : Type 0 where
  pub files : List (List ℕ × List ℕ)
  pub plan : Planned
  pub missed : ℕ

-- how often a read failed: by the plan, or for want of the file
abbrev pub faults_of : PlannedShelf → ℕ
faults_of shelf = shelf.plan.faults + shelf.missed

-- the next read fails: by the plan, or because no file has the name
abbrev pub read_fails : PlannedShelf → List ℕ → Bool
read_fails shelf name = fails_next shelf.plan || not (has_file shelf.files name)

-- how many calls failed so behind the next read
abbrev pub missed_after : PlannedShelf → List ℕ → ℕ
missed_after shelf name = if fails_next shelf.plan || has_file shelf.files name then shelf.missed else one_more shelf.missed
