-- Three files describe one season, or have one first wrong row.
use Rattle.std.specs.Prelude.{◌≡◌, ℕ, List}
use Rattle.fpl_base.specs.declared.kinds.Profile.{Profile}
use Rattle.season_book.specs.declared.command.Command.{Command}
use Rattle.fpl_reports.specs.Folder.{AreOrders}
use Rattle.fpl_reports.specs.Faults.{IsFirstWrong}

-- no three files are loaded by two lists of commands
abbrev pub OneSeason : Type 0
OneSeason =
    (clubs players fixtures : List ℕ) (split : ℕ) (profile : Profile) (a b : List Command)
    → AreOrders clubs players fixtures split profile a → AreOrders clubs players fixtures split profile b → a ≡ b

-- none are loaded, and have a wrong row
abbrev pub SeasonOrWrongRow : Type 0
SeasonOrWrongRow =
    (clubs players fixtures : List ℕ) (split : ℕ) (profile : Profile) (a : List Command) (file n : ℕ)
    → AreOrders clubs players fixtures split profile a → IsFirstWrong clubs players fixtures split file n → ⊥

-- none have two first wrong rows
abbrev pub OneWrongRow : Type 0
OneWrongRow =
    (clubs players fixtures : List ℕ) (split file n other m : ℕ)
    → IsFirstWrong clubs players fixtures split file n → IsFirstWrong clubs players fixtures split other m → (file ≡ other) × (n ≡ m)
