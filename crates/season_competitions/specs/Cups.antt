-- The draw of a cup by kept rows: what refuses it, and what nothing refuses.
use Rattle.std.specs.Prelude.{◌≡◌, ℕ, Bool, true, List, Option, Some, None, Result, if◌then◌else◌, length, ◌++◌, [], ◌∷◌}
use Rattle.std.specs.Option.{option_map, option_map_or}
use Rattle.rule_book.specs.declared.cup.Bracket.{Bracket}
use Rattle.manager_book.specs.declared.manager.Manager.{Manager}
use Rattle.season_book.specs.Book.{EntryFacts, Facts}
use Rattle.season_book.specs.LeagueCommands.{cup_broken, cup_drawn, cup_there, is_issued, is_registered}
use Rattle.season_book.specs.declared.answer.Answer.{Answer}
use Rattle.season_book.specs.declared.answer.Answer.TheVariants as answer
use Rattle.season_book.specs.declared.command.Command.{Command}
use Rattle.season_entries.specs.Deeds.{IsAnswered}
use Rattle.season_entries.specs.Entries.{AreEntries}
use Rattle.season_entries.specs.Known.{is_issued_by, is_registered_by}

-- the answer that refuses a draw beside so many cups, if one does, where these entries were issued and these are
-- registered: by an id that is not there, then by a rule
abbrev pub draw_answer : Facts → (ℕ → Bool) → (ℕ → Bool) → ℕ → Bracket → Option Answer
draw_answer facts issued registered count b =
    if cup_there facts issued b then option_map answer.Rule (cup_broken facts registered count b) else Some answer.Unknown

-- the same of a command
abbrev pub cup_answer : Facts → (ℕ → Bool) → (ℕ → Bool) → ℕ → Command → Option Answer
cup_answer facts issued registered count command =
    option_map_or (draw_answer facts issued registered count) (cup_drawn command) (Some answer.Unknown)

-- the same by the managers
abbrev pub cup_answer_by : Facts → List Manager → ℕ → Command → Option Answer
cup_answer_by facts managers count command = cup_answer facts (is_issued_by managers) (is_registered_by managers) count command

-- a draw was judged as each book says for which the managers stand
abbrev pub IsCupJudgedByBooks : {T : Type 0} → Facts → List Manager → ℕ → Command → Result T Answer → Type 0
IsCupJudgedByBooks facts managers count command judged = (entries : List EntryFacts)
    → AreEntries facts.players managers entries
    → IsAnswered (cup_answer facts (is_issued entries) (is_registered entries) count command) judged

-- nothing refuses a draw: there is room for one cup more, and it can be played
abbrev pub IsCupGranted : Facts → List Bracket → Command → Type 0
IsCupGranted facts cups command = (b : Bracket) × (cup_drawn command ≡ Some b) × (cup_broken facts (λ number. true) (length cups) b ≡ None)

-- the cups behind it
abbrev pub cups_after : List Bracket → Command → List Bracket
cups_after cups command = option_map_or (λ b. cups ++ b ∷ []) (cup_drawn command) cups
