-- No verdict says anything of a store.
use Rattle.std.proofs.Common.{◌≡◌, ◌≢◌, ℕ, Bool, true, false, List, [], ◌∷◌, ◌++◌, length, Option, Some, None, if◌then◌else◌, arith, subst, sym, inl, inr}
use Rattle.std.specs.Prelude.{Result, Ok, Err, ⊤, is_some}
use Rattle.std.specs.Option.{option_map, option_map_or}
use Rattle.fpl_base.specs.declared.kinds.Caller.{Caller}
use Rattle.fpl_base.specs.declared.rule.Rule.{Rule}
use Rattle.fpl_base.specs.declared.rule.Rule.TheVariants as rule
use Rattle.rule_book.specs.Calendar.{deadlines_order}
use Rattle.rule_book.specs.declared.cup.Bracket.{Bracket}
use Rattle.rule_book.specs.Entries.{entry_in}
use Rattle.rule_book.specs.HistoryRules.{is_started}
use Rattle.season_book.specs.Book.{Book, EntryFacts, Facts, caller_number, last_number}
use Rattle.season_book.specs.Commands.{are_there, begun_by, changed_by, has_player, part_of, refusal_of}
use Rattle.season_book.specs.Doing.{IsStoreless}
use Rattle.season_book.specs.EntryCommands.{deed_refusal, history_after, names_players}
use Rattle.season_book.specs.EntryViews.{entry_shown}
use Rattle.season_book.specs.Hosts.{keys_of}
use Rattle.season_book.specs.KeyCommands.{NewKey, entries_rekeyed, key_given, rekey_refusal}
use Rattle.season_book.specs.LeagueCommands.{cup_broken, cup_drawn, cup_made, cup_there, is_issued, is_registered, league_made, league_refusal, leagues_after, leagues_there}
use Rattle.season_book.specs.LeagueViews.{cup_shown, league_shown}
use Rattle.season_book.specs.PlayerCommands.{Amendment, amendment, facts_amended, have_had, position_refusal}
use Rattle.season_book.specs.Verdict.{IsVerdictIn, Outcome, Verdict, amend_ruled, begun, cup_ruled, in_season, judged, key_refusal, key_ruled, keyed, my_answer, number_refusal, page_of, ruled, ruled_by, ruled_in, ruled_of, seen_in, settled, shown_or_unknown, unless_broken, unless_misnumbered, unless_refused, unseen, wants_no_season, with_entry, with_history}
use Rattle.season_book.specs.AllWindows.{window_data}
use Rattle.season_book.specs.Windows.{me_window}
use Rattle.season_book.specs.Views.{shown_of}
use Rattle.season_book.specs.declared.answer.Answer.{Answer}
use Rattle.season_book.specs.declared.answer.Answer.TheVariants as answer
use Rattle.season_book.specs.declared.command.Command.{Command}
use Rattle.season_book.specs.declared.command.Command.TheVariants as command
use Rattle.season_book.specs.declared.made.Made.{Made}
use Rattle.season_book.specs.declared.made.Made.TheVariants as made
use Rattle.season_book.specs.declared.part.Part.{Part}
use Rattle.season_book.specs.declared.part.Part.TheVariants as part
use Rattle.season_book.specs.declared.request.Request.{Request}
use Rattle.season_book.specs.declared.request.Request.TheVariants as request
use Rattle.season_book.specs.declared.request.View.{View}
use Rattle.season_book.specs.declared.request.View.TheVariants as view
use Rattle.season_book.specs.declared.shown.Shown.{Shown}
use Rattle.season_book.specs.declared.shown.Shown.TheVariants as shown
use Rattle.fpl_answers.specs.Answers.{done_status, status_of}

-- no such answer has status 500

not_500 : (what : Made) → done_status what ≡ 500 → ⊥
not_500 made.Nothing is = omega (arith, is)
not_500 (made.Entry e) is = omega (arith, is)
not_500 (made.League l) is = omega (arith, is)
not_500 (made.Cup c) is = omega (arith, is)

pub storeless_status : (a : Answer) → IsStoreless a → status_of a ≢ 500
storeless_status (answer.Done n what) storeless is = not_500 what is
storeless_status (answer.Shown s) storeless is = omega (arith, is)
storeless_status (answer.Rule r) storeless is = omega (arith, is)
storeless_status answer.Unknown storeless is = omega (arith, is)
storeless_status answer.Keeper storeless is = storeless
storeless_status (answer.Damaged key) storeless is = storeless
storeless_status answer.Memory storeless is = omega (arith, is)

-- what refuses a command

abbrev Refuses : {T : Type 0} → Result T Answer → Type 0
Refuses (Ok told) = ⊤
Refuses (Err refused) = IsStoreless refused

chosen : {T : Type 0} (test : Bool) (one other : Result T Answer) → Refuses one → Refuses other → Refuses (if test then one else other)
chosen true one other here there = here
chosen false one other here there = there

in_a_season : {T : Type 0} (some : Option Facts) (ruled : Facts → Result T Answer) → ((facts : Facts) → Refuses (ruled facts)) → Refuses (in_season some ruled)
in_a_season None ruled each = tt
in_a_season (Some facts) ruled each = each facts

if_broken : {T : Type 0} (broken : Option Rule) (told : T) → Refuses (unless_broken broken told)
if_broken None told = tt
if_broken (Some rule) told = tt

if_refused : (broken : Option Rule) (facts : Facts) → Refuses (unless_refused broken facts)
if_refused None facts = tt
if_refused (Some rule) facts = tt

begins : (some : Option Facts) → Refuses (begun some)
begins None = tt
begins (Some facts) = if_refused (deadlines_order facts.calendar.deadlines) facts

judges : (some : Option Facts) (now : ℕ) (command : Command) → Refuses (judged some now command)
judges None now command = begins (begun_by command)
judges (Some facts) now command =
    chosen (is_some (begun_by command)) _ _ tt (chosen (are_there facts command) _ _ (if_refused (refusal_of facts now command) (changed_by facts command)) tt)

by_facts : (book : Book) (due : Result Facts Answer) → Refuses due → Refuses (ruled_by book due)
by_facts book (Ok facts) refuses = tt
by_facts book (Err refused) refuses = refuses

keys : (operator : List ℕ) (book : Book) (command : Command) → Refuses (keyed operator book command)
keys operator book (command.Key key name) = if_broken (key_refusal operator book.entries key) (with_entry book key name)
keys operator book command = tt

rekeys : (operator : List ℕ) (book : Book) (some : Option NewKey) → Refuses (option_map_or (key_ruled operator book) some (Err answer.Unknown))
rekeys operator book None = tt
rekeys operator book (Some given) =
    chosen (is_issued book.entries given.entry) _ _
    (if_broken (rekey_refusal operator (keys_of book.entries) given.entry given.key) (record { made = made.Nothing; book = record book { entries = entries_rekeyed book.entries given } })) tt

amends : (book : Book) (facts : Facts) (some : Option Amendment) → Refuses (option_map_or (amend_ruled book facts) some (Err answer.Unknown))
amends book facts None = tt
amends book facts (Some given) =
    chosen (has_player facts given.player) _ _
    (if_broken (position_refusal facts (have_had book.entries given.player) given) (record { made = made.Nothing; book = record book { facts = Some (facts_amended facts given) } })) tt

deeds : (book : Book) (facts : Facts) (e : ℕ) (command : Command) (some : Option EntryFacts) → Refuses (ruled_of book facts e command some)
deeds book facts e command None = tt
deeds book facts e command (Some entry) =
    chosen (names_players facts command) _ _
    (if_broken (deed_refusal facts entry.history command) (record { made = made.Nothing; book = with_history book e (history_after facts entry.history command) })) tt

cups : (book : Book) (facts : Facts) (some : Option Bracket) → Refuses (option_map_or (cup_ruled book facts) some (Err answer.Unknown))
cups book facts None = tt
cups book facts (Some b) =
    chosen (cup_there facts (is_issued book.entries) b) _ _
    (if_broken (cup_broken facts (is_registered book.entries) (length book.cups) b) (record { made = cup_made book.cups; book = record book { cups = book.cups ++ b ∷ [] } })) tt

rules : (p : Part) (operator : List ℕ) (book : Book) (caller : Caller) (now : ℕ) (command : Command) → Refuses (ruled_in p operator book caller now command)
rules part.Facts operator book caller now command = by_facts book (judged book.facts now command) (judges book.facts now command)
rules part.Players operator book caller now command = in_a_season book.facts _ (λ facts. amends book facts (amendment command))
rules part.Entries operator book caller now command = in_a_season book.facts _ (λ facts. keys operator book command)
rules part.Keys operator book caller now command = in_a_season book.facts _ (λ facts. rekeys operator book (key_given command))
rules part.Deeds operator book caller now command =
    in_a_season book.facts _ (λ facts. deeds book facts (caller_number caller) command (entry_in book.entries (caller_number caller)))
rules part.Leagues operator book caller now command =
    in_a_season book.facts _ (λ facts. chosen (leagues_there facts (is_issued book.entries) book.leagues command) _ _
    (if_broken (league_refusal facts (is_registered book.entries (caller_number caller)) book.leagues (caller_number caller) command)
    (record { made = league_made book.leagues command; book = record book { leagues = leagues_after book.leagues (caller_number caller) command } })) tt)
rules part.Cups operator book caller now command = in_a_season book.facts _ (λ facts. cups book facts (cup_drawn command))

settles : (book : Book) (caller : Caller) (number : ℕ) (command : Command) (due : Result Outcome Answer) → Refuses due
    → IsStoreless (settled book caller number command due).answer
settles book caller number command (Ok outcome) refuses = tt
settles book caller number command (Err refused) refuses = refuses

numbers : (broken : Option Rule) (book : Book) (verdict : Verdict) → IsStoreless verdict.answer → IsStoreless (unless_misnumbered broken book verdict).answer
numbers (Some broken) book verdict storeless = tt
numbers None book verdict storeless = storeless

-- what a view gets

shows : (some : Option Shown) → IsStoreless (shown_or_unknown some)
shows None = tt
shows (Some shown) = tt

if_started : (started : Bool) (shown : Shown) (rule : Rule) → IsStoreless (if started then answer.Shown shown else answer.Rule rule)
if_started true shown rule = tt
if_started false shown rule = tt

mine : (book : Book) (facts : Facts) (caller : Caller) (some : Option EntryFacts) → IsStoreless (my_answer book facts caller some)
mine book facts caller None = tt
mine book facts caller (Some entry) = if_started (is_started entry.history) _ _

sees : (book : Book) (caller : Caller) (view : View) (facts : Facts) → IsStoreless (seen_in book caller view facts)
sees book caller view.Me facts = mine book facts caller (entry_in book.entries (caller_number caller))
sees book caller (view.EntryGameweek e g) facts = shows (option_map shown.EntryGameweek (entry_shown facts book.entries e g))
sees book caller (view.League l) facts = shows (option_map (league_shown facts book.entries) (entry_in book.leagues l))
sees book caller (view.Cup c) facts = shows (option_map (λ b. shown.Cup (cup_shown facts book.entries b)) (entry_in book.cups c))
sees book caller (view.Window w) facts =
    shows (option_map page_of (window_data facts book.entries book.leagues book.cups caller (last_number book caller) w))
sees book caller view facts = shows (shown_of facts view)

sees_in : (book : Book) (caller : Caller) (view : View) (some : Option Facts) → IsStoreless (option_map_or (seen_in book caller view) some (unseen book caller view))
sees_in book caller view None =
    if_started (wants_no_season view) (page_of (me_window book.entries caller (last_number book caller))) rule.NoSeason
sees_in book caller view (Some facts) = sees book caller view facts

-- what a verdict answers

pub verdicts_are_storeless : (operator : List ℕ) (book : Book) (caller : Caller) (now : ℕ) (asked : Request) (verdict : Verdict)
    → IsVerdictIn operator book caller now asked verdict → IsStoreless verdict.answer
verdicts_are_storeless operator book caller now (request.View view) verdict is =
    subst (λ (v : Verdict). IsStoreless v.answer) (sym is) (sees_in book caller view book.facts)
verdicts_are_storeless operator book caller now (request.Command number command) verdict (inl (made, repeat, is)) =
    subst (λ (v : Verdict). IsStoreless v.answer) (sym is) tt
verdicts_are_storeless operator book caller now (request.Command number command) verdict (inr (fresh, is)) =
    let due : Result Outcome Answer = ruled operator book caller now command in
    subst (λ (v : Verdict). IsStoreless v.answer) (sym is)
    (numbers (number_refusal (last_number book caller) number) book (settled book caller number command due)
    (settles book caller number command due (rules (part_of command) operator book caller now command)))
