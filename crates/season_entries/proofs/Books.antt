-- Rows refuse as the books for which they stand.
use Rattle.std.proofs.Common.{◌≡◌, ◌-◌, ℕ, zero, suc, Bool, true, false, List, [], ◌∷◌, Option, Some, None, Result, if◌then◌else◌, get_or, slice_get, ◌==◌, refl, subst}
use Rattle.fpl_base.specs.declared.rule.Rule.{Rule}
use Rattle.rule_book.specs.declared.player.Player.{Player}
use Rattle.rule_book.specs.Calendar.{next_gameweek}
use Rattle.rule_book.specs.Entries.{entry_in}
use Rattle.rule_book.specs.EntryCalls.{in_next}
use Rattle.rule_book.specs.History.{Event}
use Rattle.rule_book.specs.PlayerFigures.{position_in}
use Rattle.rule_book.specs.Players.{ArePlayers}
use Rattle.season_ledger.specs.declared.row.Row.{Row}
use Rattle.season_ledger.specs.Stands.{StandsFor}
use Rattle.manager_book.specs.declared.manager.Manager.{Manager}
use Rattle.manager_book.specs.HistoryLaws.{RefuseAlike, RowsAlwaysRefuseAlike}
use Rattle.manager_book.specs.Managers.{Managers, nobody, season_of}
use Rattle.season_book.specs.Book.{EntryFacts, Facts}
use Rattle.season_book.specs.EntryCommands.{deed_refusal, refused_in}
use Rattle.season_book.specs.declared.answer.Answer.{Answer}
use Rattle.season_book.specs.declared.command.Command.{Command}
use Rattle.season_book.specs.declared.command.Command.TheVariants as command
use Rattle.season_entries.specs.Deeds.{IsAnswered, IsJudgedByBooks, deed_answer, rows_refusal, rows_refused_in}
use Rattle.season_entries.specs.Entries.{AreEntries, IsEntry}
use Rattle.season_entries.proofs.Placing.{have_positions}

-- the manager of an entry that is there
entry_at : (players : List Player) (managers : List Manager) (entries : List EntryFacts) (i : ℕ) (entry : EntryFacts) → AreEntries players managers entries → slice_get entries i ≡ Some entry → IsEntry players (get_or managers i nobody) entry
entry_at players [] [] i entry a e = cc
entry_at players [] (x ∷ entries) i entry a e = absurd a
entry_at players (m ∷ managers) [] i entry a e = absurd a
entry_at players (m ∷ managers) (x ∷ entries) zero entry a e = let s : x ≡ entry = cc in subst (IsEntry players m) s a.0
entry_at players (m ∷ managers) (x ∷ entries) (suc i) entry a e = entry_at players managers entries i entry a.1 e

-- a number that an entry has is not 0
pub slice_there : {X : Type 0} (xs : List X) (e : ℕ) (x : X) → entry_in xs e ≡ Some x → slice_get xs (e - 1) ≡ Some x
slice_there xs e x h = by_test (e == 0) h
  where
    by_test : (b : Bool) → (if b then None else slice_get xs (e - 1)) ≡ Some x → slice_get xs (e - 1) ≡ Some x
    by_test true h = cc
    by_test false h = h

pub entry_of : (players : List Player) (book : Managers) (entries : List EntryFacts) (e : ℕ) (entry : EntryFacts) → AreEntries players book.managers entries → entry_in entries e ≡ Some entry → IsEntry players (get_or book.managers (e - 1) nobody) entry
entry_of players book entries e entry a h = entry_at players book.managers entries (e - 1) entry a (slice_there entries e entry h)

-- command by command
refuse_alike : (facts : Facts) (rows : List Row) (h : List Event) (command : Command) (g : ℕ) → RefuseAlike facts.players rows h g → rows_refused_in facts rows command g ≡ refused_in facts h command g
refuse_alike facts rows h (command.Squad players captain vice) g r = r.squad players captain vice
refuse_alike facts rows h (command.Transfers swaps) g r = r.batch swaps
refuse_alike facts rows h (command.Lineup players captain vice) g r = r.lineup players captain vice
refuse_alike facts rows h (command.Chip chip) g r = r.chip facts.calendar.split chip
refuse_alike facts rows h command.CancelChip g r = r.cancel
refuse_alike facts rows h (command.Season a b c d) g r = refl
refuse_alike facts rows h (command.Deadline a b) g r = refl
refuse_alike facts rows h (command.Player a b c d e) g r = refl
refuse_alike facts rows h (command.Price a b) g r = refl
refuse_alike facts rows h (command.Club a b) g r = refl
refuse_alike facts rows h (command.Gone a b) g r = refl
refuse_alike facts rows h (command.Fixture a b c d e) g r = refl
refuse_alike facts rows h (command.Move a b c) g r = refl
refuse_alike facts rows h (command.AmendFixture a b c) g r = refl
refuse_alike facts rows h (command.AmendPlayer a b c) g r = refl
refuse_alike facts rows h (command.Sheet a b c) g r = refl
refuse_alike facts rows h (command.Line a b c) g r = refl
refuse_alike facts rows h (command.Drop a b) g r = refl
refuse_alike facts rows h (command.Finished a b) g r = refl
refuse_alike facts rows h (command.Key a b) g r = refl
refuse_alike facts rows h (command.Rekey a b c) g r = refl
refuse_alike facts rows h (command.League a b c d) g r = refl
refuse_alike facts rows h (command.Join a b) g r = refl
refuse_alike facts rows h (command.Draw a b) g r = refl
refuse_alike facts rows h (command.Cup a b c) g r = refl

in_next_alike : (next : Option ℕ) (f k : ℕ → Option Rule) → ((g : ℕ) → f g ≡ k g) → in_next next f ≡ in_next next k
in_next_alike None f k same = refl
in_next_alike (Some g) f k same = same g

refusal_alike : RowsAlwaysRefuseAlike → (facts : Facts) (rows : List Row) (h : List Event) (command : Command) → StandsFor (position_in facts.players) rows h → rows_refusal facts rows command ≡ deed_refusal facts h command
refusal_alike law facts rows h command st = in_next_alike (next_gameweek facts.calendar) (rows_refused_in facts rows command) (refused_in facts h command)
    (λ g. refuse_alike facts rows h command g (law facts.players rows h g st))

pub judged_by_books : {T : Type 0} → RowsAlwaysRefuseAlike → (facts : Facts) (book : Managers) (e : ℕ) (command : Command) (r : Result T Answer) → ArePlayers facts.players
    → IsAnswered (deed_answer facts (rows_refusal facts (season_of book e) command) command) r → IsJudgedByBooks facts book.managers e command r
judged_by_books law facts book e command r are judged entries entry stand there =
    let i : IsEntry facts.players (get_or book.managers (e - 1) nobody) entry = entry_of facts.players book entries e entry stand there in
    let st : StandsFor (position_in facts.players) (season_of book e) entry.history = i.history (position_in facts.players) (have_positions facts.players are) in
    subst (λ broken. IsAnswered (deed_answer facts broken command) r) (refusal_alike law facts (season_of book e) entry.history command st) judged
