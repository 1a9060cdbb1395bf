-- Each step of a run acts or rests, and what acts rises a caller's number by one.
use Rattle.std.proofs.Common.{◌≡◌, ◌+◌, ℕ, Bool, true, false, ◌&&◌, ◌==◌, if◌then◌else◌, nat_lt, List, [], ◌∷◌, Option, Some, None, arith, refl, sym, ap, subst, ◌∙◌, inl, inr}
use Rattle.std.specs.Prelude.{◌⊎◌, ◌++◌, Result, Ok, Err, IfErr, is_some, length}
use Rattle.std.specs.Option.{option_map, option_map_or}
use Rattle.std.proofs.lemmas.Bool.{cases_eq, false≢true}
use Rattle.std.proofs.lemmas.Bool.Decides.{nat_tests}
use Rattle.std.proofs.lemmas.Option.{none-some}
use Rattle.fpl_base.specs.Causes.{Rose}
use Rattle.fpl_base.specs.declared.kinds.Caller.{Caller}
use Rattle.fpl_base.specs.declared.rule.Rule.{Rule}
use Rattle.fpl_base.specs.declared.rule.Rule.TheVariants as rule
use Rattle.rule_book.specs.declared.cup.Bracket.{Bracket}
use Rattle.rule_book.specs.Calendar.{deadlines_order}
use Rattle.rule_book.specs.Entries.{entry_in}
use Rattle.rule_book.specs.HistoryRules.{is_started}
use Rattle.rule_book.specs.ById.{at_id, placed_at}
use Rattle.rule_book.proofs.AtId.{placed_other, placed_same}
use Rattle.season_book.specs.Book.{Book, EntryFacts, Facts, Last, caller_number, last_number}
use Rattle.season_book.specs.declared.command.Command.{Command}
use Rattle.season_book.specs.Commands.{are_there, begun_by, changed_by, has_player, part_of, refusal_of}
use Rattle.season_book.specs.declared.command.Command.TheVariants as command
use Rattle.season_book.specs.declared.part.Part.{Part}
use Rattle.season_book.specs.declared.part.Part.TheVariants as part
use Rattle.season_book.specs.EntryCommands.{deed_refusal, history_after, names_players}
use Rattle.season_book.specs.EntryViews.{entry_shown, me_shown}
use Rattle.season_book.specs.Hosts.{keys_of, number_in}
use Rattle.season_book.specs.KeyCommands.{NewKey, entries_rekeyed, key_given, rekey_refusal}
use Rattle.season_book.specs.LeagueCommands.{cup_broken, cup_drawn, cup_made, cup_there, is_issued, is_registered, league_made, league_refusal, leagues_after, leagues_there}
use Rattle.season_book.specs.LeagueViews.{cup_shown, league_shown}
use Rattle.season_book.specs.Once.{Acted, Acts, CommandsActOnce, Rests, RiseByOne, WasDone, acted_numbers, number_asked}
use Rattle.season_book.specs.Runs.{Asked}
use Rattle.season_book.specs.Verdict.{Failures, IsVerdictIn, MayAnswer, MayBeLeft, Outcome, Verdict, accepted, amend_ruled, amends_ruled, begun, cup_ruled, cups_ruled, in_season, judged, key_refusal, key_ruled, keyed, keys_ruled, leagues_ruled, my_answer, number_refusal, pass, ruled, ruled_by, ruled_in, ruled_of, page_of, seen_in, settled, shown_or_unknown, unless_broken, unless_misnumbered, unless_refused, unseen, view_answer, wants_no_season, with_entry, with_history}
use Rattle.season_book.specs.AllWindows.{window_data}
use Rattle.season_book.specs.Windows.{me_window}
use Rattle.season_book.specs.PlayerCommands.{Amendment, amendment, facts_amended, have_had, position_refusal}
use Rattle.season_book.specs.Views.{shown_of}
use Rattle.season_book.specs.declared.answer.Answer.{Answer}
use Rattle.season_book.specs.declared.answer.Answer.TheVariants as answer
use Rattle.season_book.specs.declared.request.Request.{Request}
use Rattle.season_book.specs.declared.request.Request.TheVariants as request
use Rattle.season_book.specs.declared.made.Made.TheVariants as made
use Rattle.season_book.specs.declared.request.View.{View}
use Rattle.season_book.specs.declared.request.View.TheVariants as view
use Rattle.season_book.specs.declared.shown.Shown.{Shown}
use Rattle.season_book.specs.declared.shown.Shown.TheVariants as shown

-- an answer that says of no command that it was done
abbrev IsUndone : Answer → Type 0
IsUndone (answer.Done number made) = ⊥
IsUndone reply = Unit {0}

undone : (book : Book) (asked : Asked) (reply : Answer) → IsUndone reply → WasDone book asked reply
undone book asked (answer.Done number made) never = absurd never
undone book asked (answer.Shown shown) un = tt
undone book asked (answer.Rule rule) un = tt
undone book asked answer.Unknown un = tt
undone book asked answer.Keeper un = tt
undone book asked (answer.Damaged key) un = tt
undone book asked answer.Memory un = tt

undone_shown : (shown : Option Shown) → IsUndone (shown_or_unknown shown)
undone_shown None = tt
undone_shown (Some shown) = tt

chosen_answer : (b : Bool) (P : Answer → Type 0) (x y : Answer) → P x → P y → P (if b then x else y)
chosen_answer true P x y px py = px
chosen_answer false P x y px py = py

undone_mine : (book : Book) (facts : Facts) (caller : Caller) (entry : Option EntryFacts) → IsUndone (my_answer book facts caller entry)
undone_mine book facts caller None = tt
undone_mine book facts caller (Some entry) =
    chosen_answer (is_started entry.history) IsUndone (answer.Shown (shown.Me (me_shown facts entry.history (caller_number caller) (last_number book caller)))) (answer.Rule rule.NotRegistered) tt tt

undone_seen : (book : Book) (caller : Caller) (view : View) (facts : Facts) → IsUndone (seen_in book caller view facts)
undone_seen book caller view.Season facts = undone_shown (shown_of facts view.Season)
undone_seen book caller (view.Player p) facts = undone_shown (shown_of facts (view.Player p))
undone_seen book caller (view.PlayerGameweek p g) facts = undone_shown (shown_of facts (view.PlayerGameweek p g))
undone_seen book caller (view.Fixture f) facts = undone_shown (shown_of facts (view.Fixture f))
undone_seen book caller view.Me facts = undone_mine book facts caller (entry_in book.entries (caller_number caller))
undone_seen book caller (view.EntryGameweek e g) facts = undone_shown (option_map shown.EntryGameweek (entry_shown facts book.entries e g))
undone_seen book caller (view.League l) facts = undone_shown (option_map (league_shown facts book.entries) (entry_in book.leagues l))
undone_seen book caller (view.Cup c) facts = undone_shown (option_map (λ b. shown.Cup (cup_shown facts book.entries b)) (entry_in book.cups c))
undone_seen book caller (view.Window w) facts =
    undone_shown (option_map page_of (window_data facts book.entries book.leagues book.cups caller (last_number book caller) w))

undone_in : (book : Book) (caller : Caller) (view : View) (facts : Option Facts) → IsUndone (option_map_or (seen_in book caller view) facts (unseen book caller view))
undone_in book caller view None =
    chosen_answer (wants_no_season view) IsUndone (answer.Shown (page_of (me_window book.entries caller (last_number book caller)))) (answer.Rule rule.NoSeason) tt tt
undone_in book caller view (Some facts) = undone_seen book caller view facts

chosen : (b : Bool) (P : Result Facts Answer → Type 0) (x y : Result Facts Answer) → P x → P y → P (if b then x else y)
chosen true P x y px py = px
chosen false P x y px py = py

abbrev Undone : Result Facts Answer → Type 0
Undone verdict = IfErr verdict IsUndone

undone_unless : (broken : Option Rule) (facts : Facts) → Undone (unless_refused broken facts)
undone_unless None facts = tt
undone_unless (Some rule) facts = tt

undone_begun : (facts : Option Facts) → Undone (begun facts)
undone_begun None = tt
undone_begun (Some facts) = undone_unless (deadlines_order facts.calendar.deadlines) facts

undone_judged : (facts : Option Facts) (now : ℕ) (command : Command) → Undone (judged facts now command)
undone_judged None now command = undone_begun (begun_by command)
undone_judged (Some facts) now command =
    let behind = unless_refused (refusal_of facts now command) (changed_by facts command) in
    chosen (is_some (begun_by command)) Undone (Err (answer.Rule rule.SeasonThere)) (if are_there facts command then behind else Err answer.Unknown) tt
    (chosen (are_there facts command) Undone behind (Err answer.Unknown) (undone_unless (refusal_of facts now command) (changed_by facts command)) tt)

undone_unbroken : (broken : Option Rule) (outcome : Outcome) → IfErr (unless_broken broken outcome) IsUndone
undone_unbroken None outcome = tt
undone_unbroken (Some broken) outcome = tt

is_keyed : (P : Result Outcome Answer → Type 0) (operator : List ℕ) (book : Book) (command : Command)
    → ((key name : List ℕ) → P (unless_broken (key_refusal operator book.entries key) (with_entry book key name))) → P (Err answer.Unknown) → P (keyed operator book command)
is_keyed P operator book (command.Key key name) made unknown = made key name
is_keyed P operator book (command.Season a b c d) made unknown = unknown
is_keyed P operator book (command.Deadline a b) made unknown = unknown
is_keyed P operator book (command.Player a b c d e) made unknown = unknown
is_keyed P operator book (command.Price a b) made unknown = unknown
is_keyed P operator book (command.AmendPlayer a b c) made unknown = unknown
is_keyed P operator book (command.Club a b) made unknown = unknown
is_keyed P operator book (command.Gone a b) made unknown = unknown
is_keyed P operator book (command.Fixture a b c d e) made unknown = unknown
is_keyed P operator book (command.Move a b c) made unknown = unknown
is_keyed P operator book (command.AmendFixture a b c) made unknown = unknown
is_keyed P operator book (command.Sheet a b c) made unknown = unknown
is_keyed P operator book (command.Line a b c) made unknown = unknown
is_keyed P operator book (command.Drop a b) made unknown = unknown
is_keyed P operator book (command.Finished a b) made unknown = unknown
is_keyed P operator book (command.Rekey a b c) made unknown = unknown
is_keyed P operator book (command.Squad a b c) made unknown = unknown
is_keyed P operator book (command.Transfers a) made unknown = unknown
is_keyed P operator book (command.Lineup a b c) made unknown = unknown
is_keyed P operator book (command.Chip a) made unknown = unknown
is_keyed P operator book command.CancelChip made unknown = unknown
is_keyed P operator book (command.League a b c d) made unknown = unknown
is_keyed P operator book (command.Join a b) made unknown = unknown
is_keyed P operator book (command.Draw a b) made unknown = unknown
is_keyed P operator book (command.Cup a b c) made unknown = unknown

undone_keyed : (operator : List ℕ) (book : Book) (command : Command) (facts : Option Facts) → IfErr (in_season facts (λ f. keyed operator book command)) IsUndone
undone_keyed operator book command None = tt
undone_keyed operator book command (Some facts) =
    is_keyed (λ r. IfErr r IsUndone) operator book command (λ key name. undone_unbroken (key_refusal operator book.entries key) (with_entry book key name)) tt

chosen_outcome : (b : Bool) (P : Result Outcome Answer → Type 0) (x y : Result Outcome Answer) → P x → P y → P (if b then x else y)
chosen_outcome true P x y px py = px
chosen_outcome false P x y px py = py

abbrev key_outcome : Book → NewKey → Outcome
key_outcome book given = record { made = made.Nothing; book = record book { entries = entries_rekeyed book.entries given } }

undone_key : (operator : List ℕ) (book : Book) (given : Option NewKey) → IfErr (option_map_or (key_ruled operator book) given (Err answer.Unknown)) IsUndone
undone_key operator book None = tt
undone_key operator book (Some given) =
    let broken = rekey_refusal operator (keys_of book.entries) given.entry given.key in
    let behind : Result Outcome Answer = unless_broken broken (key_outcome book given) in
    chosen_outcome (is_issued book.entries given.entry) (λ r. IfErr r IsUndone) behind (Err answer.Unknown) (undone_unbroken broken (key_outcome book given)) tt

undone_keys : (operator : List ℕ) (book : Book) (command : Command) (facts : Option Facts) → IfErr (in_season facts (λ f. keys_ruled operator book command)) IsUndone
undone_keys operator book command None = tt
undone_keys operator book command (Some facts) = undone_key operator book (key_given command)

abbrev amend_outcome : Book → Facts → Amendment → Outcome
amend_outcome book facts given = record { made = made.Nothing; book = record book { facts = Some (facts_amended facts given) } }

undone_amend : (book : Book) (facts : Facts) (given : Option Amendment) → IfErr (option_map_or (amend_ruled book facts) given (Err answer.Unknown)) IsUndone
undone_amend book facts None = tt
undone_amend book facts (Some given) =
    let broken = position_refusal facts (have_had book.entries given.player) given in
    let behind : Result Outcome Answer = unless_broken broken (amend_outcome book facts given) in
    chosen_outcome (has_player facts given.player) (λ r. IfErr r IsUndone) behind (Err answer.Unknown) (undone_unbroken broken (amend_outcome book facts given)) tt

undone_amends : (book : Book) (command : Command) (facts : Option Facts) → IfErr (in_season facts (λ f. amends_ruled book f command)) IsUndone
undone_amends book command None = tt
undone_amends book command (Some facts) = undone_amend book facts (amendment command)

undone_of : (book : Book) (facts : Facts) (e : ℕ) (command : Command) (entry : Option EntryFacts) → IfErr (ruled_of book facts e command entry) IsUndone
undone_of book facts e command None = tt
undone_of book facts e command (Some entry) =
    let outcome : Outcome = record { made = made.Nothing; book = with_history book e (history_after facts entry.history command) } in
    let behind : Result Outcome Answer = unless_broken (deed_refusal facts entry.history command) outcome in
    chosen_outcome (names_players facts command) (λ r. IfErr r IsUndone) behind (Err answer.Unknown) (undone_unbroken (deed_refusal facts entry.history command) outcome) tt

undone_for : (book : Book) (caller : Caller) (command : Command) (facts : Option Facts)
    → IfErr (in_season facts (λ f. ruled_of book f (caller_number caller) command (entry_in book.entries (caller_number caller)))) IsUndone
undone_for book caller command None = tt
undone_for book caller command (Some facts) = undone_of book facts (caller_number caller) command (entry_in book.entries (caller_number caller))

abbrev leagues_outcome : Book → ℕ → Command → Outcome
leagues_outcome book e command = record { made = league_made book.leagues command; book = record book { leagues = leagues_after book.leagues e command } }

abbrev cup_outcome : Book → Bracket → Outcome
cup_outcome book b = record { made = cup_made book.cups; book = record book { cups = book.cups ++ b ∷ [] } }

undone_leagues : (book : Book) (e : ℕ) (command : Command) (facts : Option Facts) → IfErr (in_season facts (λ f. leagues_ruled book f e command)) IsUndone
undone_leagues book e command None = tt
undone_leagues book e command (Some facts) =
    let broken = league_refusal facts (is_registered book.entries e) book.leagues e command in
    let behind : Result Outcome Answer = unless_broken broken (leagues_outcome book e command) in
    chosen_outcome (leagues_there facts (is_issued book.entries) book.leagues command) (λ r. IfErr r IsUndone) behind (Err answer.Unknown) (undone_unbroken broken (leagues_outcome book e command)) tt

undone_cup : (book : Book) (facts : Facts) (drawn : Option Bracket) → IfErr (option_map_or (cup_ruled book facts) drawn (Err answer.Unknown)) IsUndone
undone_cup book facts None = tt
undone_cup book facts (Some b) =
    let broken = cup_broken facts (is_registered book.entries) (length book.cups) b in
    let behind : Result Outcome Answer = unless_broken broken (cup_outcome book b) in
    chosen_outcome (cup_there facts (is_issued book.entries) b) (λ r. IfErr r IsUndone) behind (Err answer.Unknown) (undone_unbroken broken (cup_outcome book b)) tt

undone_cups : (book : Book) (command : Command) (facts : Option Facts) → IfErr (in_season facts (λ f. cups_ruled book f command)) IsUndone
undone_cups book command None = tt
undone_cups book command (Some facts) = undone_cup book facts (cup_drawn command)

undone_by : (book : Book) (facts : Result Facts Answer) → Undone facts → IfErr (ruled_by book facts) IsUndone
undone_by book (Ok facts) un = tt
undone_by book (Err refused) un = un

undone_ruled : (part : Part) (operator : List ℕ) (book : Book) (caller : Caller) (now : ℕ) (command : Command) → IfErr (ruled_in part operator book caller now command) IsUndone
undone_ruled part.Facts operator book caller now command = undone_by book (judged book.facts now command) (undone_judged book.facts now command)
undone_ruled part.Players operator book caller now command = undone_amends book command book.facts
undone_ruled part.Entries operator book caller now command = undone_keyed operator book command book.facts
undone_ruled part.Keys operator book caller now command = undone_keys operator book command book.facts
undone_ruled part.Deeds operator book caller now command = undone_for book caller command book.facts
undone_ruled part.Leagues operator book caller now command = undone_leagues book (caller_number caller) command book.facts
undone_ruled part.Cups operator book caller now command = undone_cups book command book.facts

-- a number that no rule refuses is the next one
used_or_gap : (last : ℕ) (c : Bool) → (if c then Some (rule.NumberUsed last) else Some (rule.NumberGap last)) ≡ None → ⊥
used_or_gap last true none = none-some (rule.NumberUsed last) (sym none)
used_or_gap last false none = none-some (rule.NumberGap last) (sym none)

old_or_more : (last : ℕ) (b c : Bool) → (if b then Some (rule.NumberOld last) else if c then Some (rule.NumberUsed last) else Some (rule.NumberGap last)) ≡ None → ⊥
old_or_more last true c none = none-some (rule.NumberOld last) (sym none)
old_or_more last false c none = used_or_gap last c none

wrong : (last : ℕ) (a b c : Bool) → a ≡ false → (if a then None else if b then Some (rule.NumberOld last) else if c then Some (rule.NumberUsed last) else Some (rule.NumberGap last)) ≡ None → ⊥
wrong last true b c not none = false≢true (sym not)
wrong last false b c not none = old_or_more last b c none

equal : (a b : ℕ) → a ≡ b → (a == b) ≡ true
equal a b same = grind (arith, nat_tests, same)

unequal : (a b : ℕ) → (a ≡ b → ⊥) → (a == b) ≡ false
unequal a b apart = grind (arith, nat_tests, apart)

is_next : (last number : ℕ) → number_refusal last number ≡ None → number ≡ last + 1
is_next last number none = elim (cases_eq number (last + 1)) [
  | inl same ↦ same
  | inr apart ↦ absurd (wrong last (number == last + 1) (nat_lt number last) (number == last) (unequal number (last + 1) apart) none)
]

-- what a verdict says: the request acted, or it rested
abbrev Told : List ℕ → Book → Asked → Answer → Book → Type 0
Told operator book asked told after = Acts operator book asked told after ⊎ ((after ≡ pass book asked.now) × WasDone book asked told)

abbrev verdict_of : Answer → Book → Verdict
verdict_of told after = record { answer = told; book = after }

rested : (operator : List ℕ) (book : Book) (asked : Asked) (told due : Answer) (after : Book) → verdict_of told after ≡ verdict_of due (pass book asked.now) → WasDone book asked due → Told operator book asked told after
rested operator book asked told due after same done =
    inr (ap (λ v. v.book) same, subst (WasDone book asked) (sym (ap (λ v. v.answer) same)) done)

module _ (operator : List ℕ) (book : Book) (caller : Caller) (now number : ℕ) (failures : Failures) (command : Command) (told : Answer) (after : Book) where
  abbrev order : Asked
  order = record { caller = caller; now = now; request = request.Command number command; failures = failures }

  settled_told : (due : Result Outcome Answer) → ruled operator (pass book now) caller now command ≡ due → number ≡ last_number book caller + 1
      → verdict_of told after ≡ settled (pass book now) caller number command due → Told operator book order told after
  settled_told (Err refused) is next same =
      let un : IsUndone refused = subst (λ r. IfErr r IsUndone) is (undone_ruled (part_of command) operator (pass book now) caller now command) in
      rested operator book order told refused after same (undone book order refused un)
  settled_told (Ok outcome) is next same = inl (record {
    command = command;
    outcome = outcome;
    is_next = ap (λ n. request.Command n command) next;
    is_ruled = is;
    is_done = subst (λ n. after ≡ accepted caller n command outcome) next (ap (λ v. v.book) same);
    is_told = inl (subst (λ n. told ≡ answer.Done n outcome.made) next (ap (λ v. v.answer) same));
  })

  numbered_told : (broken : Option Rule) → number_refusal (last_number book caller) number ≡ broken
      → verdict_of told after ≡ unless_misnumbered broken (pass book now) (settled (pass book now) caller number command (ruled operator (pass book now) caller now command))
      → Told operator book order told after
  numbered_told (Some broken) is same = rested operator book order told (answer.Rule broken) after same tt
  numbered_told None is same = settled_told (ruled operator (pass book now) caller now command) refl (is_next (last_number book caller) number is) same

  command_told : IsVerdictIn operator (pass book now) caller now (request.Command number command) (verdict_of told after) → Told operator book order told after
  command_told (inl (made, again, same)) = rested operator book order told (answer.Done number made) after same (command, refl, again)
  command_told (inr (fresh, same)) = numbered_told (number_refusal (last_number book caller) number) refl same

verdict_told : (operator : List ℕ) (book : Book) (asked : Asked) (told : Answer) (after : Book) (due : Request) → asked.request ≡ due
    → IsVerdictIn operator (pass book asked.now) asked.caller asked.now due (verdict_of told after) → Told operator book asked told after
verdict_told operator book asked told after (request.View view) is same =
    rested operator book asked told (view_answer (pass book asked.now) asked.caller view) after same (undone book asked (view_answer (pass book asked.now) asked.caller view) (undone_in (pass book asked.now) asked.caller view (pass book asked.now).facts))
verdict_told operator book asked told after (request.Command number command) is verdict =
    subst (λ r. Told operator book (record asked { request = r }) told after) (sym is) (command_told operator book asked.caller asked.now number asked.failures command told after verdict)

abbrev Step : List ℕ → Book → Asked → Answer → Book → Type 0
Step operator book asked reply after = Acts operator book asked reply after ⊎ Rests book asked reply after

told_step : (operator : List ℕ) (book : Book) (asked : Asked) (reply : Answer) (after : Book) → Told operator book asked reply after → Step operator book asked reply after
told_step operator book asked reply after (inl acts) = inl acts
told_step operator book asked reply after (inr (stays, done)) = inr (record { stays = inr stays; was_done = done })

-- an answer that says that the request may have been done or not
abbrev IsOut : Answer → Type 0
IsOut reply = (reply ≡ answer.Memory) ⊎ (reply ≡ answer.Keeper)

undone_out : (book : Book) (asked : Asked) (reply : Answer) → IsOut reply → WasDone book asked reply
undone_out book asked reply (inl out) = subst (WasDone book asked) (sym out) tt
undone_out book asked reply (inr out) = subst (WasDone book asked) (sym out) tt

out_step : (operator : List ℕ) (book : Book) (asked : Asked) (told reply : Answer) (after : Book) → IsOut reply → Told operator book asked told after → Step operator book asked reply after
out_step operator book asked told reply after out (inl acts) = inl (record {
  command = acts.command;
  outcome = acts.outcome;
  is_next = acts.is_next;
  is_ruled = acts.is_ruled;
  is_done = acts.is_done;
  is_told = inr out;
})
out_step operator book asked told reply after out (inr (stays, done)) = inr (record { stays = inr stays; was_done = undone_out book asked reply out })

left_step : (operator : List ℕ) (book : Book) (asked : Asked) (reply : Answer) (after : Book) → IsOut reply → MayBeLeft operator book asked.caller asked.now asked.request after → Step operator book asked reply after
left_step operator book asked reply after out (inl same) = inr (record { stays = inl same; was_done = undone_out book asked reply out })
left_step operator book asked reply after out (inr (inl passed)) = inr (record { stays = inr passed; was_done = undone_out book asked reply out })
left_step operator book asked reply after out (inr (inr (told, verdict))) = out_step operator book asked told reply after out (verdict_told operator book asked told after asked.request refl verdict)

is_out : (failures : Failures) (reply : Answer) → (reply ≡ answer.Memory) ⊎ ((reply ≡ answer.Keeper) × Rose failures.before failures.behind) → IsOut reply
is_out failures reply (inl out) = inl out
is_out failures reply (inr (failed, rose)) = inr failed

pub step : (operator : List ℕ) (book : Book) (asked : Asked) (reply : Answer) (after : Book) → MayAnswer operator asked.failures book asked.caller asked.now asked.request reply after → Step operator book asked reply after
step operator book asked reply after (inl verdict) = told_step operator book asked reply after (verdict_told operator book asked reply after asked.request refl verdict)
step operator book asked reply after (inr (out, left)) = left_step operator book asked reply after (is_out asked.failures reply out) left

-- the numbers

abbrev last_at : List (ℕ × Last) → ℕ → ℕ
last_at lasts k = number_in (at_id lasts k)

one_same : (k : ℕ) (x : Last) → at_id ((k, x) ∷ []) k ≡ Some x
one_same k x = grind (arith, nat_tests)

one_other : (k q : ℕ) (x : Last) → (q ≡ k → ⊥) → at_id ((k, x) ∷ []) q ≡ None
one_other k q x apart = grind (arith, nat_tests, apart)

number_same : (lasts : List (ℕ × Last)) (k : ℕ) (x : Last) → last_at (placed_at lasts k ((k, x) ∷ [])) k ≡ x.number
number_same lasts k x = ap number_in (placed_same lasts ((k, x) ∷ []) k ∙ one_same k x)

number_other : (lasts : List (ℕ × Last)) (k q : ℕ) (x : Last) → (q ≡ k → ⊥) → last_at (placed_at lasts k ((k, x) ∷ [])) q ≡ last_at lasts q
number_other lasts k q x apart = ap number_in (placed_other lasts ((k, x) ∷ []) k q apart (one_other k q x apart))

-- what a command leads to leaves the last commands
abbrev lasts_in : Result Outcome Answer → List (ℕ × Last) → List (ℕ × Last)
lasts_in (Ok outcome) lasts = outcome.book.lasts
lasts_in (Err refused) lasts = lasts

lasts_by : (book : Book) (facts : Result Facts Answer) → lasts_in (ruled_by book facts) book.lasts ≡ book.lasts
lasts_by book (Ok facts) = refl
lasts_by book (Err refused) = refl

lasts_unbroken : (broken : Option Rule) (outcome : Outcome) (lasts : List (ℕ × Last)) → outcome.book.lasts ≡ lasts → lasts_in (unless_broken broken outcome) lasts ≡ lasts
lasts_unbroken None outcome lasts same = same
lasts_unbroken (Some broken) outcome lasts same = refl

lasts_keyed : (operator : List ℕ) (book : Book) (command : Command) (facts : Option Facts) → lasts_in (in_season facts (λ f. keyed operator book command)) book.lasts ≡ book.lasts
lasts_keyed operator book command None = refl
lasts_keyed operator book command (Some facts) =
    is_keyed (λ r. lasts_in r book.lasts ≡ book.lasts) operator book command (λ key name. lasts_unbroken (key_refusal operator book.entries key) (with_entry book key name) book.lasts refl) refl

lasts_key : (operator : List ℕ) (book : Book) (given : Option NewKey) → lasts_in (option_map_or (key_ruled operator book) given (Err answer.Unknown)) book.lasts ≡ book.lasts
lasts_key operator book None = refl
lasts_key operator book (Some given) =
    let broken = rekey_refusal operator (keys_of book.entries) given.entry given.key in
    let behind : Result Outcome Answer = unless_broken broken (key_outcome book given) in
    chosen_outcome (is_issued book.entries given.entry) (λ r. lasts_in r book.lasts ≡ book.lasts) behind (Err answer.Unknown) (lasts_unbroken broken (key_outcome book given) book.lasts refl) refl

lasts_keys : (operator : List ℕ) (book : Book) (command : Command) (facts : Option Facts) → lasts_in (in_season facts (λ f. keys_ruled operator book command)) book.lasts ≡ book.lasts
lasts_keys operator book command None = refl
lasts_keys operator book command (Some facts) = lasts_key operator book (key_given command)

lasts_amend : (book : Book) (facts : Facts) (given : Option Amendment) → lasts_in (option_map_or (amend_ruled book facts) given (Err answer.Unknown)) book.lasts ≡ book.lasts
lasts_amend book facts None = refl
lasts_amend book facts (Some given) =
    let broken = position_refusal facts (have_had book.entries given.player) given in
    let behind : Result Outcome Answer = unless_broken broken (amend_outcome book facts given) in
    chosen_outcome (has_player facts given.player) (λ r. lasts_in r book.lasts ≡ book.lasts) behind (Err answer.Unknown) (lasts_unbroken broken (amend_outcome book facts given) book.lasts refl) refl

lasts_amends : (book : Book) (command : Command) (facts : Option Facts) → lasts_in (in_season facts (λ f. amends_ruled book f command)) book.lasts ≡ book.lasts
lasts_amends book command None = refl
lasts_amends book command (Some facts) = lasts_amend book facts (amendment command)

lasts_of : (book : Book) (facts : Facts) (e : ℕ) (command : Command) (entry : Option EntryFacts) → lasts_in (ruled_of book facts e command entry) book.lasts ≡ book.lasts
lasts_of book facts e command None = refl
lasts_of book facts e command (Some entry) =
    let outcome : Outcome = record { made = made.Nothing; book = with_history book e (history_after facts entry.history command) } in
    let behind : Result Outcome Answer = unless_broken (deed_refusal facts entry.history command) outcome in
    chosen_outcome (names_players facts command) (λ r. lasts_in r book.lasts ≡ book.lasts) behind (Err answer.Unknown) (lasts_unbroken (deed_refusal facts entry.history command) outcome book.lasts refl) refl

lasts_for : (book : Book) (caller : Caller) (command : Command) (facts : Option Facts)
    → lasts_in (in_season facts (λ f. ruled_of book f (caller_number caller) command (entry_in book.entries (caller_number caller)))) book.lasts ≡ book.lasts
lasts_for book caller command None = refl
lasts_for book caller command (Some facts) = lasts_of book facts (caller_number caller) command (entry_in book.entries (caller_number caller))

lasts_leagues : (book : Book) (e : ℕ) (command : Command) (facts : Option Facts) → lasts_in (in_season facts (λ f. leagues_ruled book f e command)) book.lasts ≡ book.lasts
lasts_leagues book e command None = refl
lasts_leagues book e command (Some facts) =
    let broken = league_refusal facts (is_registered book.entries e) book.leagues e command in
    let behind : Result Outcome Answer = unless_broken broken (leagues_outcome book e command) in
    chosen_outcome (leagues_there facts (is_issued book.entries) book.leagues command) (λ r. lasts_in r book.lasts ≡ book.lasts) behind (Err answer.Unknown) (lasts_unbroken broken (leagues_outcome book e command) book.lasts refl) refl

lasts_cup : (book : Book) (facts : Facts) (drawn : Option Bracket) → lasts_in (option_map_or (cup_ruled book facts) drawn (Err answer.Unknown)) book.lasts ≡ book.lasts
lasts_cup book facts None = refl
lasts_cup book facts (Some b) =
    let broken = cup_broken facts (is_registered book.entries) (length book.cups) b in
    let behind : Result Outcome Answer = unless_broken broken (cup_outcome book b) in
    chosen_outcome (cup_there facts (is_issued book.entries) b) (λ r. lasts_in r book.lasts ≡ book.lasts) behind (Err answer.Unknown) (lasts_unbroken broken (cup_outcome book b) book.lasts refl) refl

lasts_cups : (book : Book) (command : Command) (facts : Option Facts) → lasts_in (in_season facts (λ f. cups_ruled book f command)) book.lasts ≡ book.lasts
lasts_cups book command None = refl
lasts_cups book command (Some facts) = lasts_cup book facts (cup_drawn command)

lasts_ruled : (part : Part) (operator : List ℕ) (book : Book) (caller : Caller) (now : ℕ) (command : Command) → lasts_in (ruled_in part operator book caller now command) book.lasts ≡ book.lasts
lasts_ruled part.Facts operator book caller now command = lasts_by book (judged book.facts now command)
lasts_ruled part.Players operator book caller now command = lasts_amends book command book.facts
lasts_ruled part.Entries operator book caller now command = lasts_keyed operator book command book.facts
lasts_ruled part.Keys operator book caller now command = lasts_keys operator book command book.facts
lasts_ruled part.Deeds operator book caller now command = lasts_for book caller command book.facts
lasts_ruled part.Leagues operator book caller now command = lasts_leagues book (caller_number caller) command book.facts
lasts_ruled part.Cups operator book caller now command = lasts_cups book command book.facts

ruled_lasts : (operator : List ℕ) (book : Book) (caller : Caller) (now : ℕ) (command : Command) (outcome : Outcome) → ruled operator book caller now command ≡ Ok outcome → outcome.book.lasts ≡ book.lasts
ruled_lasts operator book caller now command outcome is =
    ap (λ r. lasts_in r book.lasts) (sym is) ∙ lasts_ruled (part_of command) operator book caller now command

-- a command that acted, in front of those that act behind it
module _ (operator : List ℕ) (book between : Book) (asked : Asked) (reply : Answer) (acts : Acts operator book asked reply between) (q : ℕ) (numbers : List ℕ) (rise : RiseByOne (last_at between.lasts q) numbers) where
  abbrev k : ℕ
  k = caller_number asked.caller

  abbrev kept : Last
  kept = record { number = last_number book asked.caller + 1; command = acts.command; made = acts.outcome.made }

  lasts_are : between.lasts ≡ placed_at book.lasts k ((k, kept) ∷ [])
  lasts_are = ap (λ b. b.lasts) acts.is_done ∙ ap (λ rows. placed_at rows k ((k, kept) ∷ [])) (ruled_lasts operator (pass book asked.now) asked.caller asked.now acts.command acts.outcome acts.is_ruled)

  number_is : number_asked asked.request ≡ last_number book asked.caller + 1
  number_is = ap number_asked acts.is_next

  here : k ≡ q → RiseByOne (last_at book.lasts q) (number_asked asked.request ∷ numbers)
  here same =
      let last : last_at between.lasts q ≡ number_asked asked.request =
      ap (λ rows. last_at rows q) lasts_are ∙ subst (λ j. last_at (placed_at book.lasts k ((k, kept) ∷ [])) j ≡ last_number book asked.caller + 1) same (number_same book.lasts k kept) ∙ sym number_is in
      (number_is ∙ ap (λ j. last_at book.lasts j + 1) same, subst (λ n. RiseByOne n numbers) last rise)

  elsewhere : (q ≡ k → ⊥) → RiseByOne (last_at book.lasts q) numbers
  elsewhere apart = subst (λ n. RiseByOne n numbers) (ap (λ rows. last_at rows q) lasts_are ∙ number_other book.lasts k q kept apart) rise

  pub rises : RiseByOne (last_at book.lasts q) (if true && (k == q) then number_asked asked.request ∷ numbers else numbers)
  rises = elim (cases_eq k q) [
    | inl same ↦ subst (λ b. RiseByOne (last_at book.lasts q) (if true && b then number_asked asked.request ∷ numbers else numbers)) (sym (equal k q same)) (here same)
    | inr apart ↦ subst (λ b. RiseByOne (last_at book.lasts q) (if true && b then number_asked asked.request ∷ numbers else numbers)) (sym (unequal k q apart)) (elsewhere (λ e. apart (sym e)))
  ]

stays_last : (book between : Book) (asked : Asked) (q : ℕ) → (between ≡ book) ⊎ (between ≡ pass book asked.now) → last_at between.lasts q ≡ last_at book.lasts q
stays_last book between asked q (inl same) = ap (λ b. last_at b.lasts q) same
stays_last book between asked q (inr same) = ap (λ b. last_at b.lasts q) same

abbrev Once : List ℕ → Book → List Asked → List Answer → Book → Type 0
Once operator book asked replies after =
    (acts : List Bool) × Acted operator book asked replies acts after
    × ((caller : Caller) → RiseByOne (last_number book caller) (acted_numbers (caller_number caller) asked acts))

once_more : (operator : List ℕ) (book between after : Book) (asked : Asked) (more : List Asked) (reply : Answer) (replies : List Answer) → Step operator book asked reply between → Once operator between more replies after → Once operator book (asked ∷ more) (reply ∷ replies) after
once_more operator book between after asked more reply replies (inl acts) (others, acted, rise) =
    (true ∷ others, (between, acts, acted), λ caller. rises operator book between asked reply acts (caller_number caller) (acted_numbers (caller_number caller) more others) (rise caller))
once_more operator book between after asked more reply replies (inr rests) (others, acted, rise) =
    (false ∷ others, (between, rests, acted), λ caller. subst (λ n. RiseByOne n (acted_numbers (caller_number caller) more others)) (stays_last book between asked (caller_number caller) rests.stays) (rise caller))

pub commands_act_once : CommandsActOnce
commands_act_once operator book after [] [] run = ([], run, λ caller. tt)
commands_act_once operator book after [] (reply ∷ replies) run = absurd run
commands_act_once operator book after (asked ∷ more) [] run = absurd run
commands_act_once operator book after (asked ∷ more) (reply ∷ replies) (between, may, run) =
    once_more operator book between after asked more reply replies (step operator book asked reply between may) (commands_act_once operator between after more replies run)
