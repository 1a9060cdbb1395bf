-- A run of `load`, and what it is handed.
use Rattle.std.specs.Prelude.{◌≡◌, ℕ, Bool, List, Option, Result}
use Rattle.fpl_base.specs.Keeping.{Map}
use Rattle.fpl_base.specs.Moments.{Moments}
use Rattle.fpl_base.specs.declared.kinds.Profile.{Profile}
use Rattle.fpl_base.specs.declared.outside.ShelfFault.{ShelfFault}
use Rattle.fpl_loading.specs.Notes.{noted_behind}
use Rattle.fpl_loading.specs.declared.notes.Note.{Note}
use Rattle.fpl_run.specs.LoadRequests.{Loads}

-- a shelf, what its files have, if it tells them, and what was noted last
pub record Handed (F : Type 0) : Type 0 where
  pub shelf : F
  pub texts : Option (List ℕ → List ℕ)
  pub noted : Option Note

-- the files of a folder were loaded, and what is noted of that was noted
abbrev pub Loaded : {K F : Type 0} → (K → Type 0) → (K → Type 0) → (K → Map → Type 0) → (K → Map → Type 0) → (K → ℕ) → (F → List ℕ → Result (List ℕ) ShelfFault → F → Type 0)
    → K → K → List ℕ → List ℕ → ℕ → Profile → Bool → Handed F → Handed F → Option Moments → Option Moments → Option (List ℕ) → Option (List ℕ) → ℕ → Type 0
Loaded tells serves holds passes faults once old new key folder split profile more handed behind moments later before after status =
    (noted : Option Note) × Loads tells serves holds passes faults once old new key handed.texts folder split profile more handed.shelf behind.shelf moments later before after status noted
    × (behind.noted ≡ noted_behind handed.noted noted)
