-- How commands are ruled in the books that a running season stands for, part by part.
use Rattle.std.proofs.Common.{◌≡◌, ◌≤◌, ◌+◌, ◌-◌, ◌++◌, ◌∷◌, [], ℕ, suc, slice_get, Bool, true, false, if◌then◌else◌, List, Option, Some, None, length, arith, refl, sym, ap, subst, ◌∙◌}
use Rattle.std.specs.Prelude.{Result, Ok, Err, IsOk, OnOk, OnErr}
use Rattle.std.specs.Option.{option_map, option_map_or}
use Rattle.std.specs.Str.{bytes_eq}
use Rattle.std.proofs.lemmas.Bool.{false≢true}
use Rattle.std.proofs.lemmas.Option.{none-some, same_Some}
use Rattle.std.proofs.lemmas.Slice.Eq.{bytes_eq-Decides}
use Rattle.fpl_base.specs.declared.kinds.Caller.{Caller}
use Rattle.fpl_base.specs.declared.kinds.Position.{Position}
use Rattle.fpl_base.specs.declared.rule.Rule.{Rule}
use Rattle.fpl_base.specs.declared.rule.Rule.TheVariants as rule
use Rattle.rule_book.specs.declared.cup.Bracket.{Bracket}
use Rattle.rule_book.specs.Entries.{entry_in}
use Rattle.rule_book.specs.HistoryRules.{is_started}
use Rattle.manager_book.specs.declared.manager.Manager.{Manager}
use Rattle.manager_book.specs.Managers.{Managers, number_from}
use Rattle.season_book.specs.Book.{Book, EntryFacts, Facts, caller_number, last_number}
use Rattle.season_book.specs.Commands.{changed_by, has_player, part_of}
use Rattle.season_book.specs.Doing.{IsGranted}
use Rattle.season_book.specs.EntryCommands.{deed_refusal, history_after, names_players}
use Rattle.season_book.specs.EntryViews.{me_shown}
use Rattle.season_book.specs.Hosts.{keys_of}
use Rattle.season_book.specs.KeyCommands.{NewKey, entries_rekeyed, rekey_refusal}
use Rattle.season_book.specs.LeagueCommands.{cup_broken, cup_drawn, cup_made, cup_there, is_issued, is_registered, league_made, league_refusal, leagues_after, leagues_there}
use Rattle.season_book.specs.PlayerCommands.{Amendment, facts_amended, have_had, position_refusal}
use Rattle.season_book.specs.Verdict.{Outcome, amends_ruled, cup_ruled, cups_ruled, in_season, judged, key_refusal, keyed, keys_ruled, leagues_ruled, my_answer, ruled, ruled_by, ruled_in, ruled_of, unless_broken, with_entry, with_history}
use Rattle.season_book.specs.declared.answer.Answer.{Answer}
use Rattle.season_book.specs.declared.answer.Answer.TheVariants as answer
use Rattle.season_book.specs.declared.command.Command.{Command}
use Rattle.season_book.specs.declared.command.Command.TheVariants as commands
use Rattle.season_book.specs.declared.made.Made.TheVariants as made
use Rattle.season_book.specs.declared.shown.Shown.TheVariants as shown_of
use Rattle.season_book.specs.declared.shown.ShownMe.{ShownMe}
use Rattle.season_book.specs.declared.part.Part.TheVariants as part
use Rattle.season_competitions.specs.Cups.{IsCupJudgedByBooks, cup_answer, cups_after, draw_answer}
use Rattle.season_competitions.specs.Leagues.{IsLeagueJudgedByBooks, league_answer}
use Rattle.season_entries.specs.Amended.{AmendmentsLeaveEntries, CanAmend, IsAmendJudgedByBooks}
use Rattle.season_entries.specs.Deeds.{IsAnswered, IsJudgedByBooks, StandForBooksAfter}
use Rattle.season_entries.specs.Entries.{AreEntries}
use Rattle.season_entries.specs.EntryLaws.{EntriesAreIssued, FactsLeaveEntries}
use Rattle.season_entries.specs.Keys.{IsRekeyJudgedByBooks}
use Rattle.season_running.specs.Accepting.{IsAmendable, IsRuled, Leads, made_by, made_in}
use Rattle.season_running.specs.Standing.{Plays, Running}
use Rattle.season_running.proofs.AnswerFacts.{granted_is}

-- by what is there and what refuses
by_answer : {T : Type 0} (there : Bool) (broken : Option Rule) (outcome : Outcome) (r : Result T Answer)
    → IsAnswered (if there then option_map answer.Rule broken else Some answer.Unknown) r → IsRuled (if there then unless_broken broken outcome else Err answer.Unknown) r
by_answer true None outcome (Ok value) a = refl
by_answer true None outcome (Err reply) a = absurd (none-some reply a)
by_answer true (Some broken) outcome (Ok value) a = absurd (none-some (answer.Rule broken) (sym a))
by_answer true (Some broken) outcome (Err reply) a = ap Err (same_Some (answer.Rule broken) reply a)
by_answer false broken outcome (Ok value) a = absurd (none-some answer.Unknown (sym a))
by_answer false broken outcome (Err reply) a = ap Err (same_Some answer.Unknown reply a)

unbroken : (broken : Option Rule) (outcome : Outcome) → IsOk (unless_broken broken outcome) → unless_broken broken outcome ≡ Ok outcome
unbroken None outcome ok = refl
unbroken (Some broken) outcome ok = absurd (false≢true ok)

well : (there : Bool) (broken : Option Rule) (outcome : Outcome) → IsOk (if there then unless_broken broken outcome else Err answer.Unknown) → (if there then unless_broken broken outcome else Err answer.Unknown) ≡ Ok outcome
well true broken outcome ok = unbroken broken outcome ok
well false broken outcome ok = absurd (false≢true ok)

-- a cup's draw, if a command draws one

abbrev cup_outcome : Book → Bracket → Outcome
cup_outcome book b = record { made = cup_made book.cups; book = record book { cups = book.cups ++ b ∷ [] } }

drawn_ruled : {T : Type 0} (book : Book) (facts : Facts) (drawn : Option Bracket) (r : Result T Answer)
    → IsAnswered (option_map_or (draw_answer facts (is_issued book.entries) (is_registered book.entries) (length book.cups)) drawn (Some answer.Unknown)) r
    → IsRuled (option_map_or (cup_ruled book facts) drawn (Err answer.Unknown)) r
drawn_ruled book facts None (Ok value) a = absurd (none-some answer.Unknown (sym a))
drawn_ruled book facts None (Err reply) a = ap Err (same_Some answer.Unknown reply a)
drawn_ruled book facts (Some b) r a =
    by_answer (cup_there facts (is_issued book.entries) b) (cup_broken facts (is_registered book.entries) (length book.cups) b) (cup_outcome book b) r a

record Drawn (book : Book) (facts : Facts) (drawn : Option Bracket) : Type 0 where
  outcome : Outcome
  is : option_map_or (cup_ruled book facts) drawn (Err answer.Unknown) ≡ Ok outcome
  makes : outcome.made ≡ cup_made book.cups
  behind : outcome.book ≡ record book { cups = option_map_or (λ b. book.cups ++ b ∷ []) drawn book.cups }

drawn_well : (book : Book) (facts : Facts) (drawn : Option Bracket) → IsOk (option_map_or (cup_ruled book facts) drawn (Err answer.Unknown)) → Drawn book facts drawn
drawn_well book facts None ok = absurd (false≢true ok)
drawn_well book facts (Some b) ok = record {
  outcome = cup_outcome book b;
  is = well (cup_there facts (is_issued book.entries) b) (cup_broken facts (is_registered book.entries) (length book.cups) b) (cup_outcome book b) ok;
  makes = refl;
  behind = refl;
}

module _ (operator : List ℕ) (book : Book) (caller : Caller) (now : ℕ) (command : Command) (running : Running) (plays : Plays running book) where
  in_facts : part_of command ≡ part.Facts → ruled operator book caller now command ≡ ruled_by book (judged (Some running.facts) now command)
  in_facts is = ap (λ p. ruled_in p operator book caller now command) is ∙ ap (λ o. ruled_by book (judged o now command)) plays.facts

  in_players : part_of command ≡ part.Players → ruled operator book caller now command ≡ amends_ruled book running.facts command
  in_players is = ap (λ p. ruled_in p operator book caller now command) is ∙ ap (λ o. in_season o (λ f. amends_ruled book f command)) plays.facts

  in_entries : part_of command ≡ part.Entries → ruled operator book caller now command ≡ keyed operator book command
  in_entries is = ap (λ p. ruled_in p operator book caller now command) is ∙ ap (λ o. in_season o (λ f. keyed operator book command)) plays.facts

  in_keys : part_of command ≡ part.Keys → ruled operator book caller now command ≡ keys_ruled operator book command
  in_keys is = ap (λ p. ruled_in p operator book caller now command) is ∙ ap (λ o. in_season o (λ f. keys_ruled operator book command)) plays.facts

  in_deeds : part_of command ≡ part.Deeds → ruled operator book caller now command ≡ ruled_of book running.facts (caller_number caller) command (entry_in book.entries (caller_number caller))
  in_deeds is =
      ap (λ p. ruled_in p operator book caller now command) is
      ∙ ap (λ o. in_season o (λ f. ruled_of book f (caller_number caller) command (entry_in book.entries (caller_number caller)))) plays.facts

  in_leagues : part_of command ≡ part.Leagues → ruled operator book caller now command ≡ leagues_ruled book running.facts (caller_number caller) command
  in_leagues is =
      ap (λ p. ruled_in p operator book caller now command) is ∙ ap (λ o. in_season o (λ f. leagues_ruled book f (caller_number caller) command)) plays.facts

  in_cups : part_of command ≡ part.Cups → ruled operator book caller now command ≡ cups_ruled book running.facts command
  in_cups is = ap (λ p. ruled_in p operator book caller now command) is ∙ ap (λ o. in_season o (λ f. cups_ruled book f command)) plays.facts

  -- judging

  pub league_ruled : {T : Type 0} (result : Result T Answer) → part_of command ≡ part.Leagues
      → IsLeagueJudgedByBooks running.facts running.managers running.leagues (caller_number caller) command result → IsRuled (ruled operator book caller now command) result
  league_ruled result is judged =
      let e = caller_number caller in
      subst (λ r. IsRuled r result) (sym (in_leagues is))
      (by_answer (leagues_there running.facts (is_issued book.entries) book.leagues command) (league_refusal running.facts (is_registered book.entries e) book.leagues e command)
      (record { made = league_made book.leagues command; book = record book { leagues = leagues_after book.leagues e command } }) result
      (subst (λ l. IsAnswered (league_answer running.facts (is_issued book.entries) (is_registered book.entries) l e command) result) (sym plays.leagues) (judged book.entries plays.entries)))

  pub cup_judged : {T : Type 0} (result : Result T Answer) → part_of command ≡ part.Cups
      → IsCupJudgedByBooks running.facts running.managers (length running.cups) command result → IsRuled (ruled operator book caller now command) result
  cup_judged result is judged =
      subst (λ r. IsRuled r result) (sym (in_cups is))
      (drawn_ruled book running.facts (cup_drawn command) result
      (subst (λ l. IsAnswered (cup_answer running.facts (is_issued book.entries) (is_registered book.entries) (length l) command) result) (sym plays.cups) (judged book.entries plays.entries)))

  pub deed_ruled : {T : Type 0} (law : EntriesAreIssued) (e : ℕ) (result : Result T Answer) → part_of command ≡ part.Deeds → caller_number caller ≡ e → 1 ≤ e → e ≤ length running.managers
      → IsJudgedByBooks running.facts running.managers e command result → IsRuled (ruled operator book caller now command) result
  deed_ruled law e result is number one few judged =
      let there = (law running.facts.players running.managers book.entries e plays.entries).there one few in
      subst (λ r. IsRuled r result)
      (sym (in_deeds is ∙ ap (λ n. ruled_of book running.facts n command (entry_in book.entries n)) number ∙ ap (ruled_of book running.facts e command) there.1))
      (by_answer (names_players running.facts command) (deed_refusal running.facts there.0.history command)
      (record { made = made.Nothing; book = with_history book e (history_after running.facts there.0.history command) }) result (judged book.entries there.0 plays.entries there.1))

  pub nobody_ruled : (law : EntriesAreIssued) (e : ℕ) → part_of command ≡ part.Deeds → caller_number caller ≡ e → entry_in book.entries e ≡ None → ruled operator book caller now command ≡ Err answer.Unknown
  nobody_ruled law e is number none =
      in_deeds is ∙ ap (λ n. ruled_of book running.facts n command (entry_in book.entries n)) number ∙ ap (ruled_of book running.facts e command) none

  pub rekey_ruled : {T : Type 0} (e : ℕ) (key name : List ℕ) (result : Result T Answer) → command ≡ commands.Rekey e key name
      → IsRekeyJudgedByBooks operator running.managers e key result → IsRuled (ruled operator book caller now command) result
  rekey_ruled e key name result is judged =
      let given : NewKey = record { entry = e; key = key; name = name } in
      subst (λ r. IsRuled r result) (sym (in_keys (ap part_of is) ∙ ap (keys_ruled operator book) is))
      (by_answer (is_issued book.entries e) (rekey_refusal operator (keys_of book.entries) e key)
      (record { made = made.Nothing; book = record book { entries = entries_rekeyed book.entries given } }) result (judged running.facts.players book.entries plays.entries))

  pub amend_ruled : {T : Type 0} (p : ℕ) (name : List ℕ) (position : Position) (result : Result T Answer) → command ≡ commands.AmendPlayer p name position
      → IsAmendJudgedByBooks running.facts running.managers p position result → IsRuled (ruled operator book caller now command) result
  amend_ruled p name position result is judged =
      let given : Amendment = record { player = p; name = name; position = position } in
      subst (λ r. IsRuled r result) (sym (in_players (ap part_of is) ∙ ap (amends_ruled book running.facts) is))
      (by_answer (has_player running.facts p) (position_refusal running.facts (have_had book.entries p) given)
      (record { made = made.Nothing; book = record book { facts = Some (facts_amended running.facts given) } }) result (judged book.entries plays.entries))

  -- doing

  pub amend_done : (p : ℕ) (name : List ℕ) (position : Position) (after : Running) → (law : AmendmentsLeaveEntries) → command ≡ commands.AmendPlayer p name position
      → CanAmend running.facts running.managers p position
      → after ≡ record running { facts = facts_amended running.facts (record { player = p; name = name; position = position }) } → IsOk (ruled operator book caller now command)
      → Leads (ruled operator book caller now command) book (made_by running command) after
  amend_done p name position after law is can same ok =
      let given : Amendment = record { player = p; name = name; position = position } in
      let outcome : Outcome = record { made = made.Nothing; book = record book { facts = Some (facts_amended running.facts given) } } in
      let ruled_is : ruled operator book caller now command ≡ amends_ruled book running.facts (commands.AmendPlayer p name position) = in_players (ap part_of is) ∙ ap (amends_ruled book running.facts) is in
      record {
        outcome = outcome;
        is_ruled = ruled_is ∙ well (has_player running.facts p) (position_refusal running.facts (have_had book.entries p) given) outcome (subst IsOk ruled_is ok);
        makes = sym (ap (λ c. made_by running c) is);
        plays = subst (λ r. Plays r outcome.book) (sym same) (record {
          facts = refl;
          entries = law running.facts running.managers p name position can book.entries plays.entries;
          leagues = plays.leagues;
          cups = plays.cups;
        });
        lasts = refl;
      }

  pub facts_done : (after : Running) → (law : FactsLeaveEntries) → part_of command ≡ part.Facts → IsGranted running.facts now command
      → after ≡ record running { facts = changed_by running.facts command }
      → Leads (ruled operator book caller now command) book (made_by running command) after
  facts_done after law is granted same = record {
    outcome = record { made = made.Nothing; book = record book { facts = Some (changed_by running.facts command) } };
    is_ruled = in_facts is ∙ ap (ruled_by book) (granted_is running.facts now command granted);
    makes = sym (ap (λ p. made_in p running command) is);
    plays = subst (λ r. Plays r (record book { facts = Some (changed_by running.facts command) })) (sym same) (record {
      facts = refl;
      entries = (law running.facts now command running.managers granted).books book.entries plays.entries;
      leagues = plays.leagues;
      cups = plays.cups;
    });
    lasts = refl;
  }

  pub deed_done : (after : Running) (law : EntriesAreIssued) (e : ℕ) → part_of command ≡ part.Deeds → caller_number caller ≡ e → 1 ≤ e → e ≤ length running.managers
      → after.facts ≡ running.facts → after.leagues ≡ running.leagues → after.cups ≡ running.cups → StandForBooksAfter running.facts e command running.managers after.managers → IsOk (ruled operator book caller now command)
      → Leads (ruled operator book caller now command) book (made_by running command) after
  deed_done after law e is number one few same leagues cups stand ok =
      let there = (law running.facts.players running.managers book.entries e plays.entries).there one few in
      let outcome : Outcome = record { made = made.Nothing; book = with_history book e (history_after running.facts there.0.history command) } in
      let ruled_is : ruled operator book caller now command ≡ ruled_of book running.facts e command (Some there.0) =
      in_deeds is ∙ ap (λ n. ruled_of book running.facts n command (entry_in book.entries n)) number ∙ ap (ruled_of book running.facts e command) there.1 in
      record {
        outcome = outcome;
        is_ruled = ruled_is ∙ well (names_players running.facts command) (deed_refusal running.facts there.0.history command) outcome (subst IsOk ruled_is ok);
        makes = sym (ap (λ p. made_in p running command) is);
        plays = record {
          facts = plays.facts ∙ ap Some (sym same);
          entries = subst (λ f. AreEntries f.players after.managers outcome.book.entries) (sym same) (stand book.entries there.0 plays.entries there.1);
          leagues = plays.leagues ∙ sym leagues;
          cups = plays.cups ∙ sym cups;
        };
        lasts = refl;
      }

  pub key_done : (key name : List ℕ) (after : Running) → command ≡ commands.Key key name → after.facts ≡ running.facts → after.leagues ≡ running.leagues → after.cups ≡ running.cups → length book.entries ≡ length running.managers
      → AreEntries running.facts.players after.managers (book.entries ++ record { key = key; name = name; history = [] } ∷ []) → IsOk (ruled operator book caller now command)
      → Leads (ruled operator book caller now command) book (made_by running command) after
  key_done key name after is same leagues cups many stand ok =
      let outcome : Outcome = with_entry book key name in
      let ruled_is : ruled operator book caller now command ≡ keyed operator book (commands.Key key name) = in_entries (ap part_of is) ∙ ap (keyed operator book) is in
      record {
        outcome = outcome;
        is_ruled = ruled_is ∙ unbroken (key_refusal operator book.entries key) outcome (subst IsOk ruled_is ok);
        makes = ap (λ n. made.Entry (n + 1)) many ∙ sym (ap (λ c. made_by running c) is);
        plays = record {
          facts = plays.facts ∙ ap Some (sym same);
          entries = subst (λ f. AreEntries f.players after.managers outcome.book.entries) (sym same) stand;
          leagues = plays.leagues ∙ sym leagues;
          cups = plays.cups ∙ sym cups;
        };
        lasts = refl;
      }

  pub rekey_done : (e : ℕ) (key name : List ℕ) (after : Running) → command ≡ commands.Rekey e key name → after.facts ≡ running.facts → after.leagues ≡ running.leagues → after.cups ≡ running.cups
      → AreEntries running.facts.players after.managers (entries_rekeyed book.entries (record { entry = e; key = key; name = name })) → IsOk (ruled operator book caller now command)
      → Leads (ruled operator book caller now command) book (made_by running command) after
  rekey_done e key name after is same leagues cups stand ok =
      let given : NewKey = record { entry = e; key = key; name = name } in
      let outcome : Outcome = record { made = made.Nothing; book = record book { entries = entries_rekeyed book.entries given } } in
      let ruled_is : ruled operator book caller now command ≡ keys_ruled operator book (commands.Rekey e key name) = in_keys (ap part_of is) ∙ ap (keys_ruled operator book) is in
      record {
        outcome = outcome;
        is_ruled = ruled_is ∙ well (is_issued book.entries e) (rekey_refusal operator (keys_of book.entries) e key) outcome (subst IsOk ruled_is ok);
        makes = sym (ap (λ c. made_by running c) is);
        plays = record {
          facts = plays.facts ∙ ap Some (sym same);
          entries = subst (λ f. AreEntries f.players after.managers outcome.book.entries) (sym same) stand;
          leagues = plays.leagues ∙ sym leagues;
          cups = plays.cups ∙ sym cups;
        };
        lasts = refl;
      }

  pub league_done : (after : Running) → part_of command ≡ part.Leagues
      → after ≡ record running { leagues = leagues_after running.leagues (caller_number caller) command } → IsOk (ruled operator book caller now command)
      → Leads (ruled operator book caller now command) book (made_by running command) after
  league_done after is same ok =
      let e = caller_number caller in
      let outcome : Outcome = record { made = league_made book.leagues command; book = record book { leagues = leagues_after book.leagues e command } } in
      record {
        outcome = outcome;
        is_ruled = in_leagues is
            ∙ well (leagues_there running.facts (is_issued book.entries) book.leagues command) (league_refusal running.facts (is_registered book.entries e) book.leagues e command) outcome
            (subst IsOk (in_leagues is) ok);
        makes = ap (λ l. league_made l command) plays.leagues ∙ sym (ap (λ p. made_in p running command) is);
        plays = subst (λ r. Plays r outcome.book) (sym same) (record {
          facts = plays.facts;
          entries = plays.entries;
          leagues = ap (λ l. leagues_after l e command) plays.leagues;
          cups = plays.cups;
        });
        lasts = refl;
      }

  pub cup_done : (after : Running) → part_of command ≡ part.Cups
      → after ≡ record running { cups = cups_after running.cups command } → IsOk (ruled operator book caller now command)
      → Leads (ruled operator book caller now command) book (made_by running command) after
  cup_done after is same ok =
      let drawn = drawn_well book running.facts (cup_drawn command) (subst IsOk (in_cups is) ok) in
      record {
        outcome = drawn.outcome;
        is_ruled = in_cups is ∙ drawn.is;
        makes = drawn.makes ∙ ap cup_made plays.cups ∙ sym (ap (λ p. made_in p running command) is);
        plays = subst (Plays after) (sym drawn.behind) (subst (λ r. Plays r (record book { cups = cups_after book.cups command })) (sym same) (record {
          facts = plays.facts;
          entries = plays.entries;
          leagues = plays.leagues;
          cups = ap (λ l. cups_after l command) plays.cups;
        }));
        lasts = ap (λ (b : Book). b.lasts) drawn.behind;
      }

-- who is named may have the position, in the season as it is kept
pub amendable : (kept seen : Running) (command : Command) (p : ℕ) (name : List ℕ) (position : Position) → kept ≡ seen → command ≡ commands.AmendPlayer p name position
    → IsAmendable seen.facts seen.managers command → CanAmend kept.facts kept.managers p position
amendable kept seen command p name position same is granted =
    subst (λ (c : Command). IsAmendable kept.facts kept.managers c) is (subst (λ (r : Running). IsAmendable r.facts r.managers command) (sym same) granted)

-- what follows where a call went well
pub on_ok : {T E P Q : Type 0} (r : Result T E) → OnOk r P → (P → Q) → OnOk r Q
on_ok (Ok value) p follows = follows p
on_ok (Err error) p follows = tt

-- the profile of managers stays, whatever came of a call
pub profile_stays : {T E : Type 0} (r : Result T E) (old new : Managers) (managers : List Manager) → OnOk r (new ≡ record old { managers = managers }) → OnErr r (new ≡ old) → new.profile ≡ old.profile
profile_stays (Ok value) old new managers ok err = ap (λ m. m.profile) ok
profile_stays (Err error) old new managers ok err = ap (λ m. m.profile) err

-- what a manager sees of his entry

seen_some : (b : Bool) (shown own : ShownMe) → (if b then Some own else None) ≡ Some shown → answer.Shown (shown_of.Me shown) ≡ (if b then answer.Shown (shown_of.Me own) else answer.Rule rule.NotRegistered)
seen_some true shown own is = sym (ap (λ x. answer.Shown (shown_of.Me x)) (same_Some own shown is))
seen_some false shown own is = absurd (none-some shown is)

seen_none : (b : Bool) (own : ShownMe) → (if b then Some own else None) ≡ None → answer.Rule rule.NotRegistered ≡ (if b then answer.Shown (shown_of.Me own) else answer.Rule rule.NotRegistered)
seen_none true own is = absurd (none-some own (sym is))
seen_none false own is = refl

module _ (book : Book) (facts : Facts) (caller : Caller) (e last : ℕ) (entry : EntryFacts)
    (at : entry_in book.entries e ≡ Some entry) (number : caller_number caller ≡ e) (is_last : last ≡ last_number book caller) where
  abbrev mine : Answer
  mine = if is_started entry.history then answer.Shown (shown_of.Me (me_shown facts entry.history e last)) else answer.Rule rule.NotRegistered

  is_mine : mine ≡ my_answer book facts caller (entry_in book.entries (caller_number caller))
  is_mine =
      ap (λ l. if is_started entry.history then answer.Shown (shown_of.Me (me_shown facts entry.history e l)) else answer.Rule rule.NotRegistered) is_last
      ∙ ap (λ n. if is_started entry.history then answer.Shown (shown_of.Me (me_shown facts entry.history n (last_number book caller))) else answer.Rule rule.NotRegistered) (sym number)
      ∙ sym (ap (λ n. my_answer book facts caller (entry_in book.entries n)) number ∙ ap (my_answer book facts caller) at)

  pub me_seen : (shown : ShownMe) → (if is_started entry.history then Some (me_shown facts entry.history e last) else None) ≡ Some shown
      → answer.Shown (shown_of.Me shown) ≡ my_answer book facts caller (entry_in book.entries (caller_number caller))
  me_seen shown is = seen_some (is_started entry.history) shown (me_shown facts entry.history e last) is ∙ is_mine

  pub me_unseen : (if is_started entry.history then Some (me_shown facts entry.history e last) else None) ≡ None
      → answer.Rule rule.NotRegistered ≡ my_answer book facts caller (entry_in book.entries (caller_number caller))
  me_unseen is = seen_none (is_started entry.history) (me_shown facts entry.history e last) is ∙ is_mine

-- the manager with a key

pub record Numbered (n : ℕ) (managers : List Manager) (key : List ℕ) (e : ℕ) : Type 0 where
  pub place : ℕ
  pub manager : Manager
  pub number : e ≡ n + place
  pub there : slice_get managers place ≡ Some manager
  pub keyed : bytes_eq key manager.key ≡ true

pub numbered_at : (n : ℕ) (managers : List Manager) (key : List ℕ) (e : ℕ) → number_from n managers key ≡ Some e → Numbered n managers key e
numbered_at n [] key e is = absurd (none-some e is)
numbered_at n (m ∷ managers) key e is = by_test (bytes_eq key m.key) refl (λ behind. numbered_at (n + 1) managers key e behind) is
  where
    later : Numbered (n + 1) managers key e → Numbered n (m ∷ managers) key e
    later found = record { place = suc found.place; manager = found.manager; number = omega (arith, found.number); there = found.there; keyed = found.keyed }

    by_test : (b : Bool) → bytes_eq key m.key ≡ b → (number_from (n + 1) managers key ≡ Some e → Numbered (n + 1) managers key e)
        → (if b then Some n else number_from (n + 1) managers key) ≡ Some e → Numbered n (m ∷ managers) key e
    by_test true same more is = record { place = 0; manager = m; number = omega (arith, same_Some n e is); there = refl; keyed = same }
    by_test false apart more is = later (more is)

-- so the manager of the entry with a key has it
pub has_key : (managers : List Manager) (key : List ℕ) (e : ℕ) (found : Option (List ℕ)) → number_from 1 managers key ≡ Some e
    → found ≡ option_map (λ m. m.key) (slice_get managers (e - 1)) → found ≡ Some key
has_key managers key e found is same =
    let at = numbered_at 1 managers key e is in
    let place : e - 1 ≡ at.place = omega (arith, at.number) in
    same ∙ ap (λ i. option_map (λ (m : Manager). m.key) (slice_get managers i)) place ∙ ap (option_map (λ (m : Manager). m.key)) at.there
    ∙ ap Some (sym ((bytes_eq-Decides key at.manager.key).0 at.keyed))
