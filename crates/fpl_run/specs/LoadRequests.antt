-- A run of `load`.
use Rattle.std.specs.Prelude.{◌≡◌, ◌⊎◌, ℕ, Bool, List, Option, None, Result}
use Rattle.fpl_base.specs.Keeping.{Map}
use Rattle.fpl_base.specs.Moments.{Moments}
use Rattle.fpl_base.specs.declared.kinds.Profile.{Profile}
use Rattle.fpl_base.specs.declared.outside.ShelfFault.{ShelfFault}
use Rattle.season_book.specs.declared.command.Command.{Command}
use Rattle.fpl_loading.specs.Faults.{TellsLoadFault}
use Rattle.fpl_loading.specs.Files.{AreOrdered, ExplainsLoad, HasRead, IsReadUntil, names_before}
use Rattle.fpl_loading.specs.More.{LoadsBy}
use Rattle.fpl_loading.specs.declared.files.LoadFault.{LoadFault}
use Rattle.fpl_loading.specs.declared.notes.Note.{Note}
use Rattle.fpl_run.specs.Requests.{Through}
use Rattle.fpl_run.specs.Keeping.{IsUnopened, Runs}

-- a host was opened and commands were loaded, from the books that the keeper's records tell; or it was not opened, no moment was
-- told, and nothing is noted
abbrev pub LoadsAll : {K : Type 0} → (K → Type 0) → (K → Type 0) → (K → Map → Type 0) → (K → Map → Type 0) → (K → ℕ) → K → K → List ℕ → Bool → List Command
    → Option Moments → Option Moments → Option (List ℕ) → Option (List ℕ) → ℕ → Option Note → Type 0
LoadsAll tells serves holds passes faults old new key more commands moments later before after status noted =
    Runs tells serves holds passes old new key moments later (faults old) (faults new) (Through (LoadsBy more commands before after status noted)) (LoadsBy more commands before after status noted)
    ⊎ ((noted ≡ None) × (later ≡ moments) × IsUnopened tells serves holds passes faults old new before after status)

-- a run of `load`: the files of a folder were read up to one that was not had, or have a wrong row, which is told, and nothing
-- was opened or noted; or each of them was read, they order some commands, and these were loaded, or what the season lacks of them
abbrev pub Loads : {K F : Type 0} → (K → Type 0) → (K → Type 0) → (K → Map → Type 0) → (K → Map → Type 0) → (K → ℕ) → (F → List ℕ → Result (List ℕ) ShelfFault → F → Type 0)
    → K → K → List ℕ → Option (List ℕ → List ℕ) → List ℕ → ℕ → Profile → Bool → F → F
    → Option Moments → Option Moments → Option (List ℕ) → Option (List ℕ) → ℕ → Option Note → Type 0
Loads tells serves holds passes faults once old new key files folder split profile more shelf behind moments later before after status noted =
    ((why : LoadFault) × ExplainsLoad files folder split why × IsReadUntil once files folder why shelf behind × TellsLoadFault why status before after
    × (noted ≡ None) × (new ≡ old) × (later ≡ moments))
    ⊎ ((commands : List Command) × AreOrdered files folder split profile commands × HasRead once files folder (names_before 4) shelf behind
    × LoadsAll tells serves holds passes faults old new key more commands moments later before after status noted)
