-- The commands of managers by kept rows: what refuses each, and what each leaves.
use Rattle.std.specs.Prelude.{◌≡◌, ℕ, true, List, [], ◌∷◌, Option, Some, None, Result, Ok, Err, IfSome, if◌then◌else◌, ⊤}
use Rattle.std.specs.Option.{option_map}
use Rattle.fpl_base.specs.declared.kinds.Position.{Position}
use Rattle.fpl_base.specs.declared.rule.Rule.{Rule}
use Rattle.rule_book.specs.declared.player.Player.{Player}
use Rattle.rule_book.specs.Batch.{HavePositions}
use Rattle.rule_book.specs.Calendar.{next_gameweek}
use Rattle.rule_book.specs.Entries.{entry_in}
use Rattle.rule_book.specs.EntryCalls.{in_next}
use Rattle.rule_book.specs.History.{Event}
use Rattle.season_ledger.specs.declared.row.Row.{Row}
use Rattle.season_ledger.specs.Rows.{AllUpTo}
use Rattle.season_ledger.specs.Stands.{StandsFor}
use Rattle.manager_book.specs.declared.manager.Manager.{Manager}
use Rattle.manager_book.specs.Calls.{cancel_broken, order_broken, play_broken, squad_broken, transfer_broken}
use Rattle.manager_book.specs.declared.deed.JudgedDeed.{JudgedDeed}
use Rattle.manager_book.specs.Deeds.{IsWorkedOut}
use Rattle.manager_book.specs.Managers.{IsSameBut, Managers, sales_of, season_of}
use Rattle.season_book.specs.Book.{EntryFacts, Facts, histories_with}
use Rattle.season_book.specs.EntryCommands.{deed_refusal, deeds_in, history_after, names_players}
use Rattle.season_book.specs.declared.answer.Answer.{Answer}
use Rattle.season_book.specs.declared.answer.Answer.TheVariants as answer
use Rattle.season_book.specs.declared.command.Command.{Command}
use Rattle.season_book.specs.declared.command.Command.TheVariants as command
use Rattle.season_entries.specs.Earlier.{RowsStayBefore}
use Rattle.season_entries.specs.Entries.{AreEntries, AreSold}

-- What refuses a command.

-- what refuses a manager's command in gameweek g, by his rows
abbrev pub rows_refused_in : Facts → List Row → Command → ℕ → Option Rule
rows_refused_in facts rows (command.Squad players captain vice) g = squad_broken rows facts.players players captain vice
rows_refused_in facts rows (command.Transfers swaps) g = transfer_broken rows facts.players swaps g
rows_refused_in facts rows (command.Lineup players captain vice) g = order_broken rows players captain vice g
rows_refused_in facts rows (command.Chip chip) g = play_broken rows facts.calendar.split chip g
rows_refused_in facts rows command.CancelChip g = cancel_broken rows g
rows_refused_in facts rows command g = None

-- the same in the next gameweek; where all are locked the season is over
abbrev pub rows_refusal : Facts → List Row → Command → Option Rule
rows_refusal facts rows command = in_next (next_gameweek facts.calendar) (rows_refused_in facts rows command)

-- the answer that refuses a manager's command, if one does: by a player who is not there, then by a rule
abbrev pub deed_answer : Facts → Option Rule → Command → Option Answer
deed_answer facts broken command = if names_players facts command then option_map answer.Rule broken else Some answer.Unknown

-- a call is refused exactly where an answer refuses, with that one
abbrev pub IsAnswered : {T : Type 0} → Option Answer → Result T Answer → Type 0
IsAnswered refused (Ok value) = refused ≡ None
IsAnswered refused (Err reply) = refused ≡ Some reply

-- a command was judged as each history that entry e has in a book says
abbrev pub IsJudgedByBooks : {T : Type 0} → Facts → List Manager → ℕ → Command → Result T Answer → Type 0
IsJudgedByBooks facts managers e command judged = (entries : List EntryFacts) (entry : EntryFacts)
    → AreEntries facts.players managers entries → entry_in entries e ≡ Some entry
    → IsAnswered (deed_answer facts (deed_refusal facts entry.history command) command) judged

-- nothing refuses it: the players that it names are there, and it breaks no rule
pub record IsDeedGranted (facts : Facts) (rows : List Row) (command : Command) : Type 0 where
  pub there : names_players facts command ≡ true
  pub unbroken : rows_refusal facts rows command ≡ None

-- What judging it works out.

-- a command was judged in the next gameweek by the rows of its entry: what was worked out fits them, and adds to each history
-- what the command does in that gameweek
pub record IsDeedJudged (facts : Facts) (rows : List Row) (command : Command) (deed : JudgedDeed) : Type 0 where
  pub gameweek : ℕ
  pub next : next_gameweek facts.calendar ≡ Some gameweek
  pub worked : IsWorkedOut gameweek facts.players rows (λ h. deeds_in facts h command gameweek) deed

-- When it can be done.

-- nothing was done in a later gameweek than the next; where all are locked, nothing more is done
abbrev pub IsInTime : Option ℕ → List Row → Type 0
IsInTime next rows = IfSome next (λ g. AllUpTo g rows)

abbrev pub AreInTime : Option ℕ → List Manager → Type 0
AreInTime next [] = ⊤
AreInTime next (manager ∷ managers) = IsInTime next manager.season × AreInTime next managers

-- What it leaves.

-- rows stand for a history wherever the players may play
abbrev pub StandWherever : List Player → List Row → List Event → Type 0
StandWherever players rows h = (position : ℕ → Position) → HavePositions position players → StandsFor position rows h

-- a command of entry e was done: other entries stay, as keys and names do, nothing was done later than the next gameweek,
-- the rows of all earlier ones stay, and rows and sales stand for what the history goes on to
pub record IsDeedDone (facts : Facts) (e : ℕ) (command : Command) (old new : Managers) : Type 0 where
  pub same : IsSameBut e old new
  pub later : IsInTime (next_gameweek facts.calendar) (season_of old e) → IsInTime (next_gameweek facts.calendar) (season_of new e)
  pub earlier : RowsStayBefore (next_gameweek facts.calendar) e old new
  pub goes_on : (h : List Event) → StandWherever facts.players (season_of old e) h
      → StandWherever facts.players (season_of new e) (history_after facts h command)
  pub sold : (h : List Event) → StandWherever facts.players (season_of old e) h
      → AreSold (sales_of old e) h → AreSold (sales_of new e) (history_after facts h command)

-- the managers stand for each book for which they stood, with the history of entry e behind the command
abbrev pub StandForBooksAfter : Facts → ℕ → Command → List Manager → List Manager → Type 0
StandForBooksAfter facts e command old new = (entries : List EntryFacts) (entry : EntryFacts)
    → AreEntries facts.players old entries → entry_in entries e ≡ Some entry
    → AreEntries facts.players new (histories_with entries e (history_after facts entry.history command))
