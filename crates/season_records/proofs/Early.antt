-- Nothing is done in a later gameweek than the next.
use Rattle.std.proofs.Common.{◌≡◌, ◌≤◌, ◌+◌, ◌-◌, ℕ, zero, suc, Bool, true, false, List, [], ◌∷◌, ◌++◌, Option, Some, None, length, min, max, arith, refl, sym, ap, subst, ◌∙◌, inl, inr, if◌then◌else◌}
use Rattle.std.specs.Prelude.{Result, Ok, Err, is_some}
use Rattle.std.specs.Option.{option_map, option_map_or}
use Rattle.std.proofs.lemmas.Bool.{cases_eq}
use Rattle.std.proofs.lemmas.List.{length-set}
use Rattle.std.proofs.lemmas.Bool.Decides.{nat_tests}
use Rattle.fpl_base.specs.declared.kinds.Caller.{Caller}
use Rattle.fpl_base.specs.declared.rule.Rule.{Rule}
use Rattle.fpl_base.specs.declared.rule.Rule.TheVariants as rule
use Rattle.rule_book.specs.declared.cup.Bracket.{Bracket}
use Rattle.rule_book.specs.Calendar.{deadlines_order, next_gameweek, passed_deadlines}
use Rattle.rule_book.specs.Entries.{entry_in}
use Rattle.rule_book.specs.History.{Event, in_gameweek}
use Rattle.rule_book.specs.HistoryRules.{NoneAfter}
use Rattle.season_book.specs.Book.{Book, EntryFacts, Facts, caller_number, histories_with, last_number}
use Rattle.season_book.specs.Commands.{are_there, begun_by, changed_by, has_player, part_of, refusal_of}
use Rattle.season_book.specs.EntryCommands.{deed_refusal, deeds_in, history_after, names_players}
use Rattle.season_book.specs.EntryViews.{gameweek_seen}
use Rattle.season_book.specs.Hosts.{keys_of}
use Rattle.season_book.specs.KeyCommands.{NewKey, entries_rekeyed, key_given, rekey_refusal, with_key}
use Rattle.season_book.specs.LeagueCommands.{cup_broken, cup_drawn, cup_made, cup_there, is_issued, is_registered, league_made, league_refusal, leagues_after, leagues_there}
use Rattle.season_book.specs.LeagueViews.{history_of}
use Rattle.season_book.specs.PlayerCommands.{Amendment, amendment, facts_amended, have_had, position_refusal}
use Rattle.season_book.specs.Verdict.{Outcome, Verdict, amend_ruled, amends_ruled, begun, cup_ruled, in_season, judged, key_refusal, key_ruled, keyed, keys_ruled, leagues_ruled, locked_at, number_refusal, pass, ruled, ruled_by, ruled_in, ruled_of, settled, unless_broken, unless_misnumbered, unless_refused, with_entry, with_history}
use Rattle.season_book.specs.declared.answer.Answer.{Answer}
use Rattle.season_book.specs.declared.answer.Answer.TheVariants as answer
use Rattle.season_book.specs.declared.command.Command.{Command}
use Rattle.season_book.specs.declared.command.Command.TheVariants as command
use Rattle.season_book.specs.declared.made.Made.TheVariants as made
use Rattle.season_book.specs.declared.part.Part.{Part}
use Rattle.season_book.specs.declared.part.Part.TheVariants as part
use Rattle.season_book.specs.declared.request.Request.TheVariants as request
use Rattle.season_records.specs.Keeping.{AreEarly, EmptyIsEarly, MomentsAreEarly, VerdictsAreEarly}
use Rattle.season_records.specs.Touched.{gameweek_of}
use Rattle.season_records.proofs.Deeds.{entry_kept, next_seen, one_here}
use Rattle.season_records.proofs.Finds.{numbered_changed, numbered_more}
use Rattle.season_records.proofs.Histories.{none_done, none_more}

-- Later gameweeks.

none_later : (g k : ℕ) (h : List Event) → g ≤ k → NoneAfter g h → NoneAfter k h
none_later g k [] le early = tt
none_later g k (e ∷ h) le early = (omega (arith, le, early.0), none_later g k h le early.1)

seen_later : (locked more gameweeks : ℕ) → min (locked + 1) gameweeks ≤ min (max locked more + 1) gameweeks
seen_later locked more gameweeks = omega arith

-- of the same entries, once the next gameweek is not an earlier one
later_early : (book behind : Book) → gameweek_of book ≤ gameweek_of behind → ((e : ℕ) → history_of book.entries e ≡ history_of behind.entries e) → AreEarly book → AreEarly behind
later_early book behind le same early e = none_later (gameweek_of book) (gameweek_of behind) (history_of behind.entries e) le (subst (NoneAfter (gameweek_of book)) (same e) (early e))

pub empty_is_early : EmptyIsEarly
empty_is_early zero = tt
empty_is_early (suc e) = subst (NoneAfter 0) (sym (nothing e)) tt
  where
    nothing : (e : ℕ) → history_of [] (suc e) ≡ []
    nothing e = grind (arith, nat_tests)

seen_passed : (now : ℕ) (some : Option Facts)
    → option_map_or (λ (facts : Facts). gameweek_seen facts.calendar) some 0 ≤ option_map_or (λ (facts : Facts). gameweek_seen facts.calendar) (option_map (locked_at now) some) 0
seen_passed now None = omega arith
seen_passed now (Some facts) = seen_later facts.calendar.locked (passed_deadlines facts.calendar.deadlines now) (length facts.calendar.deadlines)

pub moments_are_early : MomentsAreEarly
moments_are_early book now early = later_early book (pass book now) (seen_passed now book.facts) (λ e. refl) early

-- What a command leads to.

abbrev StaysEarly : Result Outcome Answer → Type 0
StaysEarly (Err refused) = Unit {0}
StaysEarly (Ok outcome) = AreEarly outcome.book

-- a command on the facts moves the next gameweek to no earlier one
seen_kept : (facts : Facts) (command : Command) → gameweek_seen facts.calendar ≤ gameweek_seen (changed_by facts command).calendar
seen_kept facts (command.Deadline g t) = subst (λ n. gameweek_seen facts.calendar ≤ min (facts.calendar.locked + 1) n) (sym (length-set facts.calendar.deadlines (g - 1) t)) (omega arith)
seen_kept facts command = omega arith

module _ (book : Book) (early : AreEarly book) where
  -- the facts
  with_facts_early : (facts : Facts) → gameweek_of book ≤ gameweek_seen facts.calendar → AreEarly (record book { facts = Some facts })
  with_facts_early facts le = later_early book (record book { facts = Some facts }) le (λ e. refl) early

  unless_early : (facts : Facts) (broken : Option Rule) → gameweek_of book ≤ gameweek_seen facts.calendar → StaysEarly (ruled_by book (unless_refused broken facts))
  unless_early facts None le = with_facts_early facts le
  unless_early facts (Some rule) le = tt

  changed_early : (facts : Facts) (now : ℕ) (command : Command) (begins_one there : Bool) → book.facts ≡ Some facts
      → StaysEarly (ruled_by book (if begins_one then Err (answer.Rule rule.SeasonThere) else if there then unless_refused (refusal_of facts now command) (changed_by facts command) else Err answer.Unknown))
  changed_early facts now command true there is = tt
  changed_early facts now command false false is = tt
  changed_early facts now command false true is =
      unless_early (changed_by facts command) (refusal_of facts now command)
      (subst (λ (some : Option Facts). option_map_or (λ (facts : Facts). gameweek_seen facts.calendar) some 0 ≤ gameweek_seen (changed_by facts command).calendar) (sym is) (seen_kept facts command))

  begun_early : (some : Option Facts) → book.facts ≡ None → StaysEarly (ruled_by book (begun some))
  begun_early None is = tt
  begun_early (Some facts) is =
      unless_early facts (deadlines_order facts.calendar.deadlines)
      (subst (λ (some : Option Facts). option_map_or (λ (facts : Facts). gameweek_seen facts.calendar) some 0 ≤ gameweek_seen facts.calendar) (sym is) (omega arith))

  judged_early : (now : ℕ) (command : Command) (some : Option Facts) → book.facts ≡ some → StaysEarly (ruled_by book (judged some now command))
  judged_early now command None is = begun_early (begun_by command) is
  judged_early now command (Some facts) is = changed_early facts now command (is_some (begun_by command)) (are_there facts command) is

  -- what leaves the entries and the facts
  broken_early : (outcome : Outcome) (broken : Option Rule) → AreEarly outcome.book → StaysEarly (unless_broken broken outcome)
  broken_early outcome None after = after
  broken_early outcome (Some rule) after = tt

  there_early : (outcome : Outcome) (there : Bool) (broken : Option Rule) → AreEarly outcome.book → StaysEarly (if there then unless_broken broken outcome else Err answer.Unknown)
  there_early outcome true broken after = broken_early outcome broken after
  there_early outcome false broken after = tt

  in_season_early : (ruled : Facts → Result Outcome Answer) → ((facts : Facts) → StaysEarly (ruled facts)) → (some : Option Facts) → StaysEarly (in_season some ruled)
  in_season_early ruled each None = tt
  in_season_early ruled each (Some facts) = each facts

  leagues_early : (e : ℕ) (command : Command) (facts : Facts) → StaysEarly (leagues_ruled book facts e command)
  leagues_early e command facts =
      there_early (record { made = league_made book.leagues command; book = record book { leagues = leagues_after book.leagues e command } })
      (leagues_there facts (is_issued book.entries) book.leagues command)
      (league_refusal facts (is_registered book.entries e) book.leagues e command) early

  cup_early : (facts : Facts) (drawn : Option Bracket) → StaysEarly (option_map_or (cup_ruled book facts) drawn (Err answer.Unknown))
  cup_early facts None = tt
  cup_early facts (Some b) =
      there_early (record { made = cup_made book.cups; book = record book { cups = book.cups ++ b ∷ [] } })
      (cup_there facts (is_issued book.entries) b) (cup_broken facts (is_registered book.entries) (length book.cups) b) early

  -- a new entry
  key_early : (operator key name : List ℕ) → StaysEarly (keyed operator book (command.Key key name))
  key_early operator key name =
      broken_early (with_entry book key name) (key_refusal operator book.entries key)
      (later_early book (with_entry book key name).book (omega arith)
      (λ e. numbered_more (λ o. option_map_or (λ (entry : EntryFacts). entry.history) o []) book.entries (record { key = key; name = name; history = [] }) e (λ is. refl)) early)

  -- another key of an entry
  rekey_early : (operator : List ℕ) (given : Option NewKey) → StaysEarly (option_map_or (key_ruled operator book) given (Err answer.Unknown))
  rekey_early operator None = tt
  rekey_early operator (Some given) =
      let behind : Book = record book { entries = entries_rekeyed book.entries given } in
      there_early (record { made = made.Nothing; book = behind })
      (is_issued book.entries given.entry) (rekey_refusal operator (keys_of book.entries) given.entry given.key)
      (later_early book behind (omega arith)
      (λ e. numbered_changed (λ o. option_map_or (λ (entry : EntryFacts). entry.history) o []) (with_key given) book.entries given.entry e (λ is entry at. refl)) early)

  -- another name and another position of a player
  amend_early : (facts : Facts) → book.facts ≡ Some facts → (given : Option Amendment) → StaysEarly (option_map_or (amend_ruled book facts) given (Err answer.Unknown))
  amend_early facts is None = tt
  amend_early facts is (Some given) =
      there_early (record { made = made.Nothing; book = record book { facts = Some (facts_amended facts given) } })
      (has_player facts given.player) (position_refusal facts (have_had book.entries given.player) given)
      (with_facts_early (facts_amended facts given)
      (subst (λ (some : Option Facts). option_map_or (λ (facts : Facts). gameweek_seen facts.calendar) some 0 ≤ gameweek_seen facts.calendar) (sym is) (omega arith)))

  amends_early : (command : Command) (some : Option Facts) → book.facts ≡ some → StaysEarly (in_season some (λ facts. amends_ruled book facts command))
  amends_early command None is = tt
  amends_early command (Some facts) is = amend_early facts is (amendment command)

  -- what a manager does
  history_early : (e : ℕ) (entry : EntryFacts) (after : List Event) → entry_in book.entries e ≡ Some entry → NoneAfter (gameweek_of book) after → AreEarly (with_history book e after)
  history_early e entry after at own q = elim (cases_eq q e) [
    | inl here ↦ subst (NoneAfter (gameweek_of book)) (sym (ap (λ q. history_of (histories_with book.entries e after) q) here ∙ ap (λ o. option_map_or (λ (entry : EntryFacts). entry.history) o []) (one_here book.entries e after entry at))) own
    | inr other ↦ subst (NoneAfter (gameweek_of book)) (entry_kept (λ o. option_map_or (λ (entry : EntryFacts). entry.history) o []) book.entries e q after entry at (λ is. absurd (other is))) (early q)
  ]

  done_early : (e : ℕ) (command : Command) (facts : Facts) (entry : EntryFacts) → book.facts ≡ Some facts → entry_in book.entries e ≡ Some entry
      → (next : Option ℕ) → next_gameweek facts.calendar ≡ next
      → AreEarly (with_history book e (entry.history ++ option_map_or (λ g. in_gameweek g (deeds_in facts entry.history command g)) next []))
  done_early e command facts entry there at None is = history_early e entry (entry.history ++ []) at (none_more (gameweek_of book) entry.history [] own tt)
    where
      own : NoneAfter (gameweek_of book) entry.history
      own = subst (NoneAfter (gameweek_of book)) (ap (λ o. option_map_or (λ (entry : EntryFacts). entry.history) o []) at) (early e)
  done_early e command facts entry there at (Some g) is =
      history_early e entry (entry.history ++ in_gameweek g (deeds_in facts entry.history command g)) at
      (subst (λ k. NoneAfter k (entry.history ++ in_gameweek g (deeds_in facts entry.history command g))) (sym seen)
      (none_done g entry.history (deeds_in facts entry.history command g) (subst (λ k. NoneAfter k entry.history) seen own)))
    where
      own : NoneAfter (gameweek_of book) entry.history
      own = subst (NoneAfter (gameweek_of book)) (ap (λ o. option_map_or (λ (entry : EntryFacts). entry.history) o []) at) (early e)

      seen : gameweek_of book ≡ g
      seen = ap (λ some. option_map_or (λ (facts : Facts). gameweek_seen facts.calendar) some 0) there ∙ sym (next_seen facts.calendar g is)

  entry_early : (e : ℕ) (command : Command) (facts : Facts) (entry : Option EntryFacts) → book.facts ≡ Some facts → entry_in book.entries e ≡ entry
      → StaysEarly (ruled_of book facts e command entry)
  entry_early e command facts None there at = tt
  entry_early e command facts (Some entry) there at =
      there_early (record { made = made.Nothing; book = with_history book e (history_after facts entry.history command) })
      (names_players facts command) (deed_refusal facts entry.history command) (done_early e command facts entry there at (next_gameweek facts.calendar) refl)

  deeds_early : (e : ℕ) (command : Command) (some : Option Facts) → book.facts ≡ some → StaysEarly (in_season some (λ facts. ruled_of book facts e command (entry_in book.entries e)))
  deeds_early e command None there = tt
  deeds_early e command (Some facts) there = entry_early e command facts (entry_in book.entries e) there refl

  -- each
  keyed_early : (operator : List ℕ) (command : Command) → StaysEarly (keyed operator book command)
  keyed_early operator (command.Key key name) = key_early operator key name
  keyed_early operator command = tt

  ruled_early : (operator : List ℕ) (caller : Caller) (now : ℕ) (command : Command) (p : Part) → StaysEarly (ruled_in p operator book caller now command)
  ruled_early operator caller now command part.Facts = judged_early now command book.facts refl
  ruled_early operator caller now command part.Players = amends_early command book.facts refl
  ruled_early operator caller now command part.Entries = in_season_early (λ facts. keyed operator book command) (λ facts. keyed_early operator command) book.facts
  ruled_early operator caller now command part.Keys = in_season_early (λ facts. keys_ruled operator book command) (λ facts. rekey_early operator (key_given command)) book.facts
  ruled_early operator caller now command part.Deeds = deeds_early (caller_number caller) command book.facts refl
  ruled_early operator caller now command part.Leagues =
      in_season_early (λ facts. leagues_ruled book facts (caller_number caller) command) (leagues_early (caller_number caller) command) book.facts
  ruled_early operator caller now command part.Cups =
      in_season_early (λ facts. option_map_or (cup_ruled book facts) (cup_drawn command) (Err answer.Unknown)) (λ facts. cup_early facts (cup_drawn command)) book.facts

  settled_early : (caller : Caller) (number : ℕ) (command : Command) (due : Result Outcome Answer) → StaysEarly due → AreEarly (settled book caller number command due).book
  settled_early caller number command (Err refused) after = early
  settled_early caller number command (Ok outcome) after = after

  numbered_early : (broken : Option Rule) (verdict : Verdict) → AreEarly verdict.book → AreEarly (unless_misnumbered broken book verdict).book
  numbered_early (Some broken) verdict after = early
  numbered_early None verdict after = after

pub verdicts_are_early : VerdictsAreEarly
verdicts_are_early operator book caller now (request.View view) verdict early is = subst AreEarly (sym (ap (λ (v : Verdict). v.book) is)) early
verdicts_are_early operator book caller now (request.Command number command) verdict early (inl (made, again, is)) = subst AreEarly (sym (ap (λ (v : Verdict). v.book) is)) early
verdicts_are_early operator book caller now (request.Command number command) verdict early (inr (fresh, is)) =
    let due : Result Outcome Answer = ruled operator book caller now command in
    subst AreEarly (sym (ap (λ (v : Verdict). v.book) is))
    (numbered_early book early (number_refusal (last_number book caller) number) (settled book caller number command due)
    (settled_early book early caller number command due (ruled_early book early operator caller now command (part_of command))))
