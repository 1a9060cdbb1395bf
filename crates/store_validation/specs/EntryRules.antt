-- The rules on entries, their teams and their transfers, by what a record says.
use Rattle.std.specs.Prelude.{ℕ, Bool, false, not, List, Option, is_some}
use Rattle.std.specs.Option.{option_map_or}
use Rattle.fpl_base.specs.Keeping.{Map}
use Rattle.fpl_base.specs.declared.kinds.Chip.{Chip}
use Rattle.stored_records.specs.EntryTold.{team_told}
use Rattle.store_validation.specs.TeamRules.{is_lawful_team}
use Rattle.store_validation.specs.TransferRules.{is_lawful_sale}
pub use Rattle.stored_records.specs.EntryTold.{first_in, first_told}

-- a registered entry has no team in its first gameweek; `first` is what its record says
abbrev pub entry_breaks : Map → ℕ → Option ℕ → Bool
entry_breaks m e first = option_map_or (λ g. not (is_some (team_told m e g))) first false

-- a team is not lawful
abbrev pub team_breaks : Map → ℕ → ℕ → List (ℕ × ℕ) → ℕ → ℕ → ℕ → Chip → Bool
team_breaks m e g picks captain vice bank chip =
    not (is_lawful_team m e g (record { picks = picks; captain = captain; vice = vice; bank = bank; chip = chip }))

-- a transfer is not lawful
abbrev pub transfer_breaks : Map → ℕ → ℕ → ℕ → ℕ → ℕ → ℕ → ℕ → Bool
transfer_breaks m e g number out into sold bought =
    not (is_lawful_sale m e g number (record { out = out; into = into; sold = sold; bought = bought }))
