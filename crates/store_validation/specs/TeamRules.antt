-- The rules on the team of an entry in a gameweek.
use Rattle.std.specs.Prelude.{ℕ, Bool, not, ◌&&◌, List, map, Option, Some, is_some, is_none}
use Rattle.std.specs.List.{list_all}
use Rattle.fpl_base.specs.Keeping.{Map}
use Rattle.fpl_base.specs.declared.kinds.Chip.{Chip}
use Rattle.fpl_base.specs.declared.kinds.Chip.TheVariants.{None as NoChip}
use Rattle.fpl_base.specs.declared.kinds.Position.{Position}
use Rattle.fpl_base.specs.declared.kinds.Position.TheVariants.{Keeper}
use Rattle.record_fields.specs.Ranges.{is_between}
use Rattle.season_records.specs.Commands.{differ}
use Rattle.season_records.specs.declared.item.Item.{Item}
use Rattle.season_records.specs.declared.item.Item.TheVariants as item
use Rattle.season_records.specs.declared.slot.Slot.TheVariants as slot
use Rattle.rule_book.specs.HistoryTransfers.{is_same_chip, makes_free, used_before}
use Rattle.rule_book.specs.Lineups.{lineup_refusal}
use Rattle.rule_book.specs.Squads.{has_squad_shape}
use Rattle.stored_records.specs.declared.entry_told.RecordedTeam.{RecordedTeam}
use Rattle.stored_records.specs.EntryTold.{chip_told, is_first_of, is_in_time}
use Rattle.stored_records.specs.Sequels.{goes_on}
use Rattle.stored_records.specs.Stored.{is_there, split_told, told}

-- the position of a player; that of a goalkeeper where he is not there
abbrev pub position_in : Option Item → Position
position_in (Some (item.Player player position club price gone name)) = position
position_in other = Keeper

abbrev pub position_told : Map → ℕ → Position
position_told m p = position_in (told m (slot.Player p))

-- the positions by slot
abbrev pub positions_told : Map → List (ℕ × ℕ) → List Position
positions_told m picks = map (λ pick. position_told m pick.0) picks

-- each of its players is there
abbrev pub has_players : Map → List (ℕ × ℕ) → Bool
has_players m picks = list_all (λ pick. is_there m (slot.Player pick.0)) picks

-- each was bought for 3.0 to 20.0 million
abbrev pub is_priced : List (ℕ × ℕ) → Bool
is_priced picks = list_all (λ pick. is_between 30 200 pick.1) picks

-- no player stands twice
abbrev pub is_distinct : List (ℕ × ℕ) → Bool
is_distinct picks = differ (map (λ pick. pick.0) picks)

-- two goalkeepers, five defenders, five midfielders and three forwards, in a lineup that nothing refuses
abbrev pub is_lined_up : List Position → ℕ → ℕ → Bool
is_lined_up positions captain vice = has_squad_shape positions && is_none (lineup_refusal positions captain vice)

-- a wildcard or a free hit in the first gameweek
abbrev pub is_too_early : Map → ℕ → ℕ → Chip → Bool
is_too_early m e g chip = is_first_of m e g && makes_free chip

-- a chip that an earlier team has: a wildcard in the same half
abbrev pub is_played_again : Map → ℕ → ℕ → Chip → Bool
is_played_again m e g chip =
    not (is_same_chip chip NoChip) && is_some (used_before (split_told m) (chip_told m e) chip g)

-- the fifteen are there, at prices that can be, each once, and a squad in a legal lineup
abbrev pub is_fit : Map → RecordedTeam → Bool
is_fit m t =
    has_players m t.picks && is_priced t.picks && is_distinct t.picks && is_lined_up (positions_told m t.picks) t.captain t.vice

-- the chip can be played in the gameweek
abbrev pub is_playable : Map → ℕ → ℕ → Chip → Bool
is_playable m e g chip = not (is_too_early m e g chip) && not (is_played_again m e g chip)

-- A team is lawful: its gameweek is in its entry's time, its fifteen are a squad in a legal lineup, its chip can be
-- played, and it follows from what was before it.
abbrev pub is_lawful_team : Map → ℕ → ℕ → RecordedTeam → Bool
is_lawful_team m e g t = is_in_time m e g && is_fit m t && is_playable m e g t.chip && goes_on m e g t
