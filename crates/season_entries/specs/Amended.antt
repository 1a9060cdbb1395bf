-- Another name and another position of a player, by what managers keep.
use Rattle.std.specs.Prelude.{◌≡◌, ℕ, Bool, List, Option, Some, None, Result, if◌then◌else◌, true}
use Rattle.std.specs.Option.{option_map}
use Rattle.fpl_base.specs.declared.kinds.Position.{Position}
use Rattle.rule_book.specs.Players.{ArePlayers, with_details}
use Rattle.manager_book.specs.declared.manager.Manager.{Manager}
use Rattle.manager_book.specs.Managers.{managers_had}
use Rattle.season_book.specs.Book.{EntryFacts, Facts}
use Rattle.season_book.specs.Commands.{has_player}
use Rattle.season_book.specs.PlayerCommands.{have_had, use_refusal}
use Rattle.season_book.specs.declared.answer.Answer.{Answer}
use Rattle.season_book.specs.declared.answer.Answer.TheVariants as answer
use Rattle.season_entries.specs.Deeds.{IsAnswered}
use Rattle.season_entries.specs.Entries.{AreEntries}

-- the answer that refuses a player a position, if one does: he is not there, or he is in use
abbrev pub amend_answer : Facts → Bool → ℕ → Position → Option Answer
amend_answer facts had p position = if has_player facts p then option_map answer.Rule (use_refusal facts had p position) else Some answer.Unknown

-- the same by managers' rows and transfers
abbrev pub amend_broken : Facts → List Manager → ℕ → Position → Option Answer
amend_broken facts managers p position = amend_answer facts (managers_had managers p) p position

-- it was judged as each book says for which the managers stand
abbrev pub IsAmendJudgedByBooks : {T : Type 0} → Facts → List Manager → ℕ → Position → Result T Answer → Type 0
IsAmendJudgedByBooks facts managers p position judged = (entries : List EntryFacts)
    → AreEntries facts.players managers entries → IsAnswered (amend_answer facts (have_had entries p) p position) judged

-- he is there, among players of whom no two have one id, and has this position already or is not in use
pub record CanAmend (facts : Facts) (managers : List Manager) (p : ℕ) (position : Position) : Type 0 where
  pub players : ArePlayers facts.players
  pub there : has_player facts p ≡ true
  pub unbroken : use_refusal facts (managers_had managers p) p position ≡ None

-- so the managers stand for the same entries
abbrev pub AmendmentsLeaveEntries : Type 0
AmendmentsLeaveEntries = (facts : Facts) (managers : List Manager) (p : ℕ) (name : List ℕ) (position : Position)
    → CanAmend facts managers p position
    → (entries : List EntryFacts) → AreEntries facts.players managers entries → AreEntries (with_details facts.players p name position) managers entries
