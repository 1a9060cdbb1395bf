-- The verdict on a request: the answer, and the book afterwards.
use Rattle.std.specs.Prelude.{◌≡◌, ◌⊎◌, ◌+◌, ◌++◌, ℕ, Bool, true, false, ◌==◌, List, [], ◌∷◌, length, not, Option, Some, None, Result, Ok, Err, is_some, nat_lt, if◌then◌else◌}
use Rattle.std.specs.Option.{option_map, option_map_or}
use Rattle.fpl_base.specs.Causes.{Rose}
use Rattle.fpl_base.specs.declared.kinds.Caller.{Caller}
use Rattle.fpl_base.specs.declared.rule.Rule.{Rule}
use Rattle.fpl_base.specs.declared.rule.Rule.TheVariants as rule
use Rattle.rule_book.specs.declared.cup.Bracket.{Bracket}
use Rattle.rule_book.specs.Calendar.{after_pass, deadlines_order}
use Rattle.rule_book.specs.Entries.{entry_in, most_entries}
use Rattle.rule_book.specs.History.{Event}
use Rattle.rule_book.specs.HistoryRules.{is_started}
use Rattle.rule_book.specs.Refusals.{first_broken, unless}
use Rattle.season_book.specs.Book.{Book, EntryFacts, Facts, caller_number, histories_with, last_number, last_of, with_last}
use Rattle.season_book.specs.declared.command.Command.{Command}
use Rattle.season_book.specs.declared.command.Command.TheVariants as command
use Rattle.season_book.specs.declared.made.Made.{Made}
use Rattle.season_book.specs.declared.made.Made.TheVariants as made
use Rattle.season_book.specs.Commands.{are_there, begun_by, changed_by, has_player, part_of, refusal_of}
use Rattle.season_book.specs.EntryCommands.{deed_refusal, history_after, names_players}
use Rattle.season_book.specs.EntryViews.{entry_shown, me_shown}
use Rattle.season_book.specs.Hosts.{caller_with, keys_of}
use Rattle.season_book.specs.KeyCommands.{NewKey, entries_rekeyed, key_given, rekey_refusal}
use Rattle.season_book.specs.LeagueCommands.{cup_broken, cup_drawn, cup_made, cup_there, is_issued, is_registered, league_made, league_refusal, leagues_after, leagues_there}
use Rattle.season_book.specs.LeagueViews.{cup_shown, league_shown}
use Rattle.season_book.specs.PlayerCommands.{Amendment, amendment, facts_amended, have_had, position_refusal}
use Rattle.season_book.specs.Views.{shown_of}
use Rattle.season_book.specs.AllWindows.{window_data}
use Rattle.season_book.specs.Windows.{me_window}
use Rattle.season_book.specs.declared.part.Part.{Part}
use Rattle.season_book.specs.declared.part.Part.TheVariants as part
use Rattle.season_book.specs.declared.answer.Answer.{Answer}
use Rattle.season_book.specs.declared.answer.Answer.TheVariants as answer
use Rattle.season_book.specs.declared.request.Request.{Request}
use Rattle.season_book.specs.declared.request.Request.TheVariants as request
use Rattle.season_book.specs.declared.request.View.{View}
use Rattle.season_book.specs.declared.request.View.TheVariants as view
use Rattle.season_book.specs.declared.request.Window.{Window}
use Rattle.season_book.specs.declared.request.Window.TheVariants as window
use Rattle.season_book.specs.declared.shown.Shown.{Shown}
use Rattle.season_book.specs.declared.shown.Shown.TheVariants as shown
use Rattle.serde_json.specs.Data.{Data}
use Rattle.serde_json.specs.Written.{compact_text}

-- the facts when a moment was told: the gameweeks whose deadlines have passed are locked
abbrev pub locked_at : ℕ → Facts → Facts
locked_at now facts = record facts { calendar = after_pass facts.calendar now }

-- the book when a moment was told
abbrev pub pass : Book → ℕ → Book
pass book now = record book { facts = option_map (locked_at now) book.facts }

-- an answer, and the book behind it
pub record Verdict : Type 0 where
  pub answer : Answer
  pub book : Book

-- what is wrong with a command's number behind the caller's last one, if it is no repeat
abbrev pub number_refusal : ℕ → ℕ → Option Rule
number_refusal last number =
    if number == last + 1 then None
    else if nat_lt number last then Some (rule.NumberOld last)
    else if number == last then Some (rule.NumberUsed last)
    else Some (rule.NumberGap last)

-- the facts, unless a rule refuses
abbrev pub unless_refused : Option Rule → Facts → Result Facts Answer
unless_refused None facts = Ok facts
unless_refused (Some broken) facts = Err (answer.Rule broken)

-- the facts that a season command begins with, unless its deadlines do not rise; no other command goes without a season
abbrev pub begun : Option Facts → Result Facts Answer
begun None = Err (answer.Rule rule.NoSeason)
begun (Some facts) = unless_refused (deadlines_order facts.calendar.deadlines) facts

-- the facts behind a command, or the answer that refuses it: by the season, then by an id that is not there, then by
-- the first rule that it breaks
abbrev pub judged : Option Facts → ℕ → Command → Result Facts Answer
judged None now command = begun (begun_by command)
judged (Some facts) now command =
    if is_some (begun_by command) then Err (answer.Rule rule.SeasonThere)
    else if are_there facts command then unless_refused (refusal_of facts now command) (changed_by facts command)
    else Err answer.Unknown

-- what an accepted command makes, and the book behind it, in which it does not stand as the caller's last one yet
pub record Outcome : Type 0 where
  pub made : Made
  pub book : Book

-- what goes with a season alone; without one a command is refused
abbrev pub in_season : {T : Type 0} → Option Facts → (Facts → Result T Answer) → Result T Answer
in_season None ruled = Err (answer.Rule rule.NoSeason)
in_season (Some facts) ruled = ruled facts

-- what is made, unless a rule refuses
abbrev pub unless_broken : {T : Type 0} → Option Rule → T → Result T Answer
unless_broken None made = Ok made
unless_broken (Some broken) made = Err (answer.Rule broken)

-- why a new entry is refused: there is no room, or its key is an entry's or the operator's
abbrev pub key_refusal : List ℕ → List EntryFacts → List ℕ → Option Rule
key_refusal operator entries key =
    first_broken (
    unless (nat_lt (length entries) most_entries) rule.EntriesFull
    ∷ unless (not (is_some (caller_with operator (keys_of entries) key))) rule.KeyThere
    ∷ [])

-- the book with one entry more, whose manager did nothing yet; its number is theirs and one
abbrev pub with_entry : Book → List ℕ → List ℕ → Outcome
with_entry book key name = record {
  made = made.Entry (length book.entries + 1);
  book = record book { entries = book.entries ++ record { key = key; name = name; history = [] } ∷ [] };
}

-- what the command that makes an entry leads to
abbrev pub keyed : List ℕ → Book → Command → Result Outcome Answer
keyed operator book (command.Key key name) = unless_broken (key_refusal operator book.entries key) (with_entry book key name)
keyed operator book command = Err answer.Unknown

-- what another key of an entry leads to: by an entry that is not there, then by whose key it is
abbrev pub key_ruled : List ℕ → Book → NewKey → Result Outcome Answer
key_ruled operator book given =
    if is_issued book.entries given.entry then
    unless_broken (rekey_refusal operator (keys_of book.entries) given.entry given.key)
    (record { made = made.Nothing; book = record book { entries = entries_rekeyed book.entries given } })
    else Err answer.Unknown

abbrev pub keys_ruled : List ℕ → Book → Command → Result Outcome Answer
keys_ruled operator book command = option_map_or (key_ruled operator book) (key_given command) (Err answer.Unknown)

-- the book where an entry's manager did this
abbrev pub with_history : Book → ℕ → List Event → Book
with_history book e h = record book { entries = histories_with book.entries e h }

-- what a manager's command leads to, by his entry: by a player who is not there, then by the first rule that it breaks;
-- else his history goes on
abbrev pub ruled_of : Book → Facts → ℕ → Command → Option EntryFacts → Result Outcome Answer
ruled_of book facts e command None = Err answer.Unknown
ruled_of book facts e command (Some entry) =
    if names_players facts command then
    unless_broken (deed_refusal facts entry.history command)
    (record { made = made.Nothing; book = with_history book e (history_after facts entry.history command) })
    else Err answer.Unknown

-- the same by the book, where there is a season; the operator is nobody's entry
abbrev pub ruled_for : Book → Caller → Command → Result Outcome Answer
ruled_for book caller command =
    in_season book.facts (λ facts. ruled_of book facts (caller_number caller) command (entry_in book.entries (caller_number caller)))

-- what a command of entry e on leagues leads to: by an id that is not there, then by the first rule that it breaks
abbrev pub leagues_ruled : Book → Facts → ℕ → Command → Result Outcome Answer
leagues_ruled book facts e command =
    if leagues_there facts (is_issued book.entries) book.leagues command then
    unless_broken (league_refusal facts (is_registered book.entries e) book.leagues e command)
    (record { made = league_made book.leagues command; book = record book { leagues = leagues_after book.leagues e command } })
    else Err answer.Unknown

-- what the draw of a cup leads to
abbrev pub cup_ruled : Book → Facts → Bracket → Result Outcome Answer
cup_ruled book facts b =
    if cup_there facts (is_issued book.entries) b then
    unless_broken (cup_broken facts (is_registered book.entries) (length book.cups) b)
    (record { made = cup_made book.cups; book = record book { cups = book.cups ++ b ∷ [] } })
    else Err answer.Unknown

abbrev pub cups_ruled : Book → Facts → Command → Result Outcome Answer
cups_ruled book facts command = option_map_or (cup_ruled book facts) (cup_drawn command) (Err answer.Unknown)

-- what a command on the facts leads to: nothing is made, and the facts alone change
abbrev pub ruled_by : Book → Result Facts Answer → Result Outcome Answer
ruled_by book (Err refused) = Err refused
ruled_by book (Ok facts) = Ok (record { made = made.Nothing; book = record book { facts = Some facts } })

-- what another name and position of a player lead to: by a player who is not there, then by who has had him
abbrev pub amend_ruled : Book → Facts → Amendment → Result Outcome Answer
amend_ruled book facts given =
    if has_player facts given.player then
    unless_broken (position_refusal facts (have_had book.entries given.player) given)
    (record { made = made.Nothing; book = record book { facts = Some (facts_amended facts given) } })
    else Err answer.Unknown

abbrev pub amends_ruled : Book → Facts → Command → Result Outcome Answer
amends_ruled book facts command = option_map_or (amend_ruled book facts) (amendment command) (Err answer.Unknown)

-- what a caller's command leads to at a moment, by the part of the book that it changes
abbrev pub ruled_in : Part → List ℕ → Book → Caller → ℕ → Command → Result Outcome Answer
ruled_in part.Facts operator book caller now command = ruled_by book (judged book.facts now command)
ruled_in part.Players operator book caller now command = in_season book.facts (λ facts. amends_ruled book facts command)
ruled_in part.Entries operator book caller now command = in_season book.facts (λ facts. keyed operator book command)
ruled_in part.Keys operator book caller now command = in_season book.facts (λ facts. keys_ruled operator book command)
ruled_in part.Deeds operator book caller now command = ruled_for book caller command
ruled_in part.Leagues operator book caller now command = in_season book.facts (λ facts. leagues_ruled book facts (caller_number caller) command)
ruled_in part.Cups operator book caller now command = in_season book.facts (λ facts. cups_ruled book facts command)

-- the same, or the answer that refuses it, where this is the operator's key
abbrev pub ruled : List ℕ → Book → Caller → ℕ → Command → Result Outcome Answer
ruled operator book caller now command = ruled_in (part_of command) operator book caller now command

-- the book behind an accepted command: it is the caller's last one
abbrev pub accepted : Caller → ℕ → Command → Outcome → Book
accepted caller number command outcome =
    with_last outcome.book caller (record { number = number; command = command; made = outcome.made })

-- what a ruled command gets
abbrev pub settled : Book → Caller → ℕ → Command → Result Outcome Answer → Verdict
settled book caller number command (Err refused) = record { answer = refused; book = book }
settled book caller number command (Ok outcome) =
    record { answer = answer.Done number outcome.made; book = accepted caller number command outcome }

-- the verdict on a command whose number was judged
abbrev pub unless_misnumbered : Option Rule → Book → Verdict → Verdict
unless_misnumbered (Some broken) book verdict = record { answer = answer.Rule broken; book = book }
unless_misnumbered None book verdict = verdict

-- the verdict on a command that is no repeat: its number first, then the command itself
abbrev pub fresh_verdict : List ℕ → Book → Caller → ℕ → ℕ → Command → Verdict
fresh_verdict operator book caller now number command =
    unless_misnumbered (number_refusal (last_number book caller) number) book
    (settled book caller number command (ruled operator book caller now command))

-- what a view of the facts gets
abbrev pub shown_or_unknown : Option Shown → Answer
shown_or_unknown None = answer.Unknown
shown_or_unknown (Some shown) = answer.Shown shown

abbrev pub fact_shown : Option Facts → View → Answer
fact_shown None view = answer.Rule rule.NoSeason
fact_shown (Some facts) view = shown_or_unknown (shown_of facts view)

-- what a manager sees of his entry, once he is registered
abbrev pub my_answer : Book → Facts → Caller → Option EntryFacts → Answer
my_answer book facts caller None = answer.Unknown
my_answer book facts caller (Some entry) =
    if is_started entry.history then
    answer.Shown (shown.Me (me_shown facts entry.history (caller_number caller) (last_number book caller)))
    else answer.Rule rule.NotRegistered

-- a JSON value as text
abbrev pub page_of : Data → Shown
page_of d = shown.Page (compact_text d)

-- what a caller's window gets in a season
abbrev pub window_answer : Book → Caller → Window → Facts → Answer
window_answer book caller w facts =
    shown_or_unknown (option_map page_of (window_data facts book.entries book.leagues book.cups caller (last_number book caller) w))

-- what a caller's view gets in a season
abbrev pub seen_in : Book → Caller → View → Facts → Answer
seen_in book caller view.Me facts = my_answer book facts caller (entry_in book.entries (caller_number caller))
seen_in book caller (view.EntryGameweek e g) facts = shown_or_unknown (option_map shown.EntryGameweek (entry_shown facts book.entries e g))
seen_in book caller (view.League l) facts = shown_or_unknown (option_map (league_shown facts book.entries) (entry_in book.leagues l))
seen_in book caller (view.Cup c) facts = shown_or_unknown (option_map (λ b. shown.Cup (cup_shown facts book.entries b)) (entry_in book.cups c))
seen_in book caller (view.Window w) facts = window_answer book caller w facts
seen_in book caller view facts = fact_shown (Some facts) view

-- whether a view wants no season: who the caller is, and nothing else
abbrev pub wants_no_season : View → Bool
wants_no_season (view.Window window.Me) = true
wants_no_season view = false

-- what a caller's view gets before there is a season
abbrev pub unseen : Book → Caller → View → Answer
unseen book caller view =
    if wants_no_season view then answer.Shown (page_of (me_window book.entries caller (last_number book caller)))
    else answer.Rule rule.NoSeason

-- what a caller's view gets
abbrev pub view_answer : Book → Caller → View → Answer
view_answer book caller view = option_map_or (seen_in book caller view) book.facts (unseen book caller view)

-- a command that the caller's last one repeats, which made this
abbrev pub IsRepeat : Book → Caller → ℕ → Command → Made → Type 0
IsRepeat book caller number command made = last_of book caller ≡ Some (record { number = number; command = command; made = made })

-- the verdict on a request, in a book in which the moment's gameweeks are locked: a repeat gets the answer that was kept
-- and changes nothing
abbrev pub IsVerdictIn : List ℕ → Book → Caller → ℕ → Request → Verdict → Type 0
IsVerdictIn operator book caller now (request.View view) verdict =
    verdict ≡ record { answer = view_answer book caller view; book = book }
IsVerdictIn operator book caller now (request.Command number command) verdict =
    ((made : Made) × IsRepeat book caller number command made × (verdict ≡ record { answer = answer.Done number made; book = book }))
    ⊎ (((made : Made) → IsRepeat book caller number command made → ⊥) × (verdict ≡ fresh_verdict operator book caller now number command))

-- the verdict on a request of a caller at a moment
abbrev pub IsVerdict : List ℕ → Book → Caller → ℕ → Request → Verdict → Type 0
IsVerdict operator book caller now request verdict = IsVerdictIn operator (pass book now) caller now request verdict

-- a book that may be left where memory ran out or the keeper failed: the one before, the same with the moment's locks,
-- or the verdict's
abbrev pub MayBeLeft : List ℕ → Book → Caller → ℕ → Request → Book → Type 0
MayBeLeft operator book caller now request after =
    (after ≡ book) ⊎ ((after ≡ pass book now) ⊎ ((refused : Answer) × IsVerdict operator book caller now request (record { answer = refused; book = after })))

-- how often the keeper had failed before a request, and behind it
pub record Failures : Type 0 where
  pub before : ℕ
  pub behind : ℕ

-- what the host of an operator may answer, and the book afterwards: the verdict's; or want of memory; or that the keeper
-- failed, only where its count rose meanwhile
abbrev pub MayAnswer : List ℕ → Failures → Book → Caller → ℕ → Request → Answer → Book → Type 0
MayAnswer operator failures book caller now request reply after =
    IsVerdict operator book caller now request (record { answer = reply; book = after })
    ⊎ (((reply ≡ answer.Memory) ⊎ ((reply ≡ answer.Keeper) × Rose failures.before failures.behind))
    × MayBeLeft operator book caller now request after)
