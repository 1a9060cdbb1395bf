-- The command that gives a player another name and another position: what refuses it, and what it changes.
use Rattle.std.specs.Prelude.{ℕ, Bool, ◌||◌, List, Option, Some, None, if◌then◌else◌}
use Rattle.std.specs.List.{list_any}
use Rattle.fpl_base.specs.declared.kinds.Position.{Position}
use Rattle.fpl_base.specs.declared.rule.Rule.{Rule}
use Rattle.fpl_base.specs.declared.rule.Rule.TheVariants as rule
use Rattle.rule_book.specs.Batch.{is_same_position}
use Rattle.rule_book.specs.PlayerFigures.{position_in}
use Rattle.rule_book.specs.Players.{with_details}
use Rattle.rule_book.specs.Uses.{has_had, has_lines}
use Rattle.season_book.specs.Book.{EntryFacts, Facts}
use Rattle.season_book.specs.declared.command.Command.{Command}
use Rattle.season_book.specs.declared.command.Command.TheVariants as command

-- a player's new name and new position
pub record Amendment : Type 0 where
  pub player : ℕ
  pub name : List ℕ
  pub position : Position

-- what a command gives a player
abbrev pub amendment : Command → Option Amendment
amendment (command.AmendPlayer p name position) = Some (record { player = p; name = name; position = position })
amendment command = None

-- an entry holds or has held a player, or a transfer names him
abbrev pub have_had : List EntryFacts → ℕ → Bool
have_had entries p = list_any (λ entry. has_had entry.history p) entries

-- why a player is refused a position, where an entry has had him or not: it is another one, and he is in use
abbrev pub use_refusal : Facts → Bool → ℕ → Position → Option Rule
use_refusal facts had p position =
    if is_same_position (position_in facts.players p) position then None
    else if had || has_lines facts.matches p then Some (rule.InUse p)
    else None

-- why he is refused the position that a command gives him
abbrev pub position_refusal : Facts → Bool → Amendment → Option Rule
position_refusal facts had given = use_refusal facts had given.player given.position

-- the facts with his new name and his new position
abbrev pub facts_amended : Facts → Amendment → Facts
facts_amended facts given = record facts { players = with_details facts.players given.player given.name given.position }
