-- Worked rows of both profiles, computed by the definitions.
use Rattle.std.proofs.Common.{◌≡◌, List, [], ◌∷◌, ◌++◌, refl}
use Rattle.std.specs.Prelude.{ℕ}
use Rattle.fpl_base.specs.declared.kinds.Profile.{Profile}
use Rattle.fpl_base.specs.declared.kinds.Profile.TheVariants as profile
use Rattle.season_book.specs.declared.command.Command.{Command}
use Rattle.season_book.specs.declared.command.Command.TheVariants as command
use Rattle.record_fields.specs.Fields.{number}
use Rattle.season_records.specs.Commands.{bytes_of_command}
use Rattle.season_records.specs.Items.{body_of}
use Rattle.season_records.specs.declared.item.Item.TheVariants as item

-- one gameweek, whose deadline is the moment 1691775000, before its lock
season_record : body_of (item.Season profile.B 1 0 (1691775000 ∷ [])) ≡ 2 ∷ 1 ∷ 1 ∷ 0 ∷ 0 ∷ 0 ∷ 0 ∷ 0 ∷ 100 ∷ 214 ∷ 112 ∷ 24 ∷ []
unfolding number
season_record = refl

-- the command that begins it with one club, `A`, by each profile
abbrev begins : Profile → Command
begins p = command.Season p (1691775000 ∷ []) 1 ((2, 65 ∷ []) ∷ [])

abbrev shared_bytes : List ℕ
shared_bytes =
    1 ∷ 0 ∷ 1 ∷ 0 ∷ 0 ∷ 0 ∷ 0 ∷ 100 ∷ 214 ∷ 112 ∷ 24 ∷ 0 ∷ 0 ∷ 0 ∷ 0 ∷ 0 ∷ 0 ∷ 0 ∷ 1
    ∷ 0 ∷ 1 ∷ 0 ∷ 0 ∷ 0 ∷ 0 ∷ 0 ∷ 0 ∷ 0 ∷ 2 ∷ 0 ∷ 1 ∷ 65 ∷ []

by_a : bytes_of_command (begins profile.A) ≡ shared_bytes
unfolding number
by_a = refl

by_b : bytes_of_command (begins profile.B) ≡ shared_bytes ++ 2 ∷ []
unfolding number
by_b = refl
