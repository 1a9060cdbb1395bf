-- Moments and verdicts lead to lawful books.
use Rattle.std.proofs.Common.{◌≡◌, ◌<◌, ◌≤◌, ◌+◌, ◌-◌, ℕ, Bool, true, false, cond, List, [], ◌∷◌, ◌++◌, All, Option, Some, None, length, nat_lt, arith, length-append, refl, sym, ap, subst, ◌∙◌, ◌⊎◌, inl, inr, if◌then◌else◌}
use Rattle.std.specs.Prelude.{Result, Ok, Err, is_some, not, ◌&&◌, ◌||◌, ◌==◌}
use Rattle.std.specs.List.{count_by, list_all}
use Rattle.std.specs.Str.{bytes_eq}
use Rattle.std.specs.Option.{option_and_then, option_map, option_map_or}
use Rattle.std.proofs.lemmas.Bool.{and_parts, cases_eq, leb-true, lt-ltb, ltb-true}
use Rattle.std.proofs.lemmas.Bool.Decides.{nat_tests}
use Rattle.std.proofs.lemmas.List.{length-set}
use Rattle.std.proofs.lemmas.Option.{none-some, same_Some}
use Rattle.fpl_base.specs.declared.kinds.Caller.{Caller}
use Rattle.fpl_base.specs.declared.kinds.Caller.TheVariants.{Operator, Entry}
use Rattle.fpl_base.specs.declared.rule.Rule.{Rule}
use Rattle.fpl_base.specs.declared.rule.Rule.TheVariants as rule
use Rattle.rule_book.specs.declared.cup.Bracket.{Bracket}
use Rattle.rule_book.specs.declared.league.LeagueKind.{LeagueKind}
use Rattle.rule_book.specs.ById.{at_id, placed_at}
use Rattle.rule_book.specs.Calendar.{deadlines_order}
use Rattle.rule_book.specs.CupCalls.{entrants}
use Rattle.rule_book.specs.Entries.{changed_in, entry_in, most_entries}
use Rattle.rule_book.specs.HeadToHead.{wrong_draw, is_draw}
use Rattle.rule_book.specs.History.{Event}
use Rattle.rule_book.specs.LeagueCalls.{create_refusal, draw_refusal, has_room_for_league, is_drawn, is_head, is_member, join_refusal, leagues_of, most_leagues, most_leagues_of_one, most_members, new_league, with_member, with_order}
use Rattle.rule_book.specs.Leagues.{LeagueFacts}
use Rattle.rule_book.proofs.AtId.{one_other, one_same, placed_other, placed_same}
use Rattle.season_book.specs.Book.{Book, EntryFacts, Facts, Last, caller_number, histories_with, last_number}
use Rattle.season_book.specs.Commands.{IsCommand, are_there, begun_by, changed_by, has_gameweek, has_player, refusal_of}
use Rattle.season_book.specs.EntryCommands.{deed_refusal, history_after, names_players}
use Rattle.season_book.specs.EntryViews.{gameweek_seen}
use Rattle.season_book.specs.Hosts.{keys_of}
use Rattle.season_book.specs.KeyCommands.{NewKey, entries_rekeyed, key_given, rekey_refusal, with_key}
use Rattle.season_book.specs.LeagueCommands.{cup_broken, cup_made, cup_there, is_issued, is_registered, league_made, league_refusal, leagues_after, leagues_there}
use Rattle.season_book.specs.PlayerCommands.{Amendment, facts_amended, have_had, position_refusal}
use Rattle.season_book.specs.Verdict.{Outcome, Verdict, accepted, amend_ruled, amends_ruled, begun, cups_ruled, in_season, judged, key_refusal, key_ruled, keyed, keys_ruled, leagues_ruled, locked_at, number_refusal, ruled, ruled_by, ruled_for, ruled_of, settled, unless_broken, unless_misnumbered, unless_refused, with_entry, with_history}
use Rattle.season_book.specs.declared.answer.Answer.{Answer}
use Rattle.season_book.specs.declared.answer.Answer.TheVariants as answer
use Rattle.season_book.specs.declared.command.Command.{Command}
use Rattle.season_book.specs.declared.command.Command.TheVariants as command
use Rattle.season_book.specs.declared.made.Made.TheVariants as made
use Rattle.season_book.specs.declared.request.Request.TheVariants as request
use Rattle.season_records.specs.Keeping.{AreEarly}
use Rattle.season_records.specs.Told.{IsInOrder}
use Rattle.season_records.specs.Touched.{gameweek_of}
use Rattle.season_records.proofs.Finds.{member_beside, more_from, none_in}
use Rattle.lawful_books.specs.LeaguesKeeping.{EmptyIsLawful, IsCaller, MomentsKeepLaws, VerdictsKeepLaws}
use Rattle.lawful_books.specs.Leagues.{AreLawful, IsLawfulCup, IsLawfulLast, IsLawfulLeague, IsMade, gameweeks_of, plays_from}
use Rattle.lawful_books.proofs.CupsKept.{coins_small, cup_kept, last_kept, open_cup}
use Rattle.lawful_books.proofs.Grown.{IsGrown, grown_history, grown_more, grown_rekeyed, grown_same}
use Rattle.lawful_books.proofs.Keys.{keys_kept, keys_more, keys_rekeyed, room_and_new}
use Rattle.lawful_books.proofs.LeaguesKept.{drawn_lawful, early_plays, joined_lawful, league_kept, new_lawful}
use Rattle.lawful_books.proofs.Memberships.{count_changed, count_more, count_same, leagues_count}
use Rattle.lawful_books.proofs.Numbers.{changed_at, there_is, last_there, length_changed, length_histories, stays_beside, stays_changed}
use Rattle.lawful_books.proofs.Tests.{all_also, lone, passed}

pub empty_is_lawful : EmptyIsLawful
empty_is_lawful = record {
  blank = λ none. record { entries = refl; leagues = refl; cups = refl; lasts = refl };
  few_entries = omega arith;
  keys = λ d e x y at also lt. absurd (none-some x (sym (none_in d) ∙ at));
  few_leagues = omega arith;
  leagues = λ l league at. absurd (none-some league (sym (none_in l) ∙ at));
  memberships = λ e. omega arith;
  few_cups = omega arith;
  cups = λ c cup at. absurd (none-some cup (sym (none_in c) ∙ at));
  lasts = λ c last at. absurd (none-some last at);
}

-- with other facts, of no fewer gameweeks
with_facts : (book : Book) (some : Option Facts) → AreLawful book → (some ≡ None → book.facts ≡ None)
    → gameweeks_of book ≤ option_map_or (λ (facts : Facts). length facts.calendar.deadlines) some 0 → AreLawful (record book { facts = some })
with_facts book some lawful none le =
    let grown : IsGrown book.entries book.entries = grown_same book.entries in
    let weeks : ℕ = option_map_or (λ (facts : Facts). length facts.calendar.deadlines) some 0 in
    record {
      blank = λ is. let blank = lawful.blank (none is) in record { entries = blank.entries; leagues = blank.leagues; cups = blank.cups; lasts = blank.lasts };
      few_entries = lawful.few_entries;
      keys = lawful.keys;
      few_leagues = lawful.few_leagues;
      leagues = λ l league at. league_kept book.entries book.entries grown (gameweeks_of book) weeks le league (lawful.leagues l league at);
      memberships = lawful.memberships;
      few_cups = lawful.few_cups;
      cups = λ c cup at. cup_kept book.entries book.entries grown (gameweeks_of book) weeks le cup (lawful.cups c cup at);
      lasts = lawful.lasts;
    }

pub moments_keep_laws : MomentsKeepLaws
moments_keep_laws book now lawful = with_facts book (option_map (locked_at now) book.facts) lawful (none book.facts) (same book.facts)
  where
    none : (some : Option Facts) → option_map (locked_at now) some ≡ None → some ≡ None
    none None is = refl
    none (Some facts) is = absurd (none-some (locked_at now facts) (sym is))

    same : (some : Option Facts)
        → option_map_or (λ (facts : Facts). length facts.calendar.deadlines) some 0 ≤ option_map_or (λ (facts : Facts). length facts.calendar.deadlines) (option_map (locked_at now) some) 0
    same None = omega arith
    same (Some facts) = omega arith

-- What a command leads to: a lawful book with a season, in which what was made is there, and no entry went.
pub record LeadsOn (before : Book) (outcome : Outcome) : Type 0 where
  pub lawful : AreLawful outcome.book
  pub begun : outcome.book.facts ≡ None → ⊥
  pub made : IsMade outcome.book.entries outcome.book.leagues outcome.book.cups outcome.made
  pub issued : (e : ℕ) → is_issued before.entries e ≡ true → is_issued outcome.book.entries e ≡ true

abbrev StaysLawful : Book → Result Outcome Answer → Type 0
StaysLawful before (Err refused) = Unit {0}
StaysLawful before (Ok outcome) = LeadsOn before outcome

-- with the caller's last command
accepted_lawful : (before : Book) (caller : Caller) (number : ℕ) (command : Command) (outcome : Outcome) → IsCaller before caller → 1 ≤ number → number ≤ 9223372036854775807
    → LeadsOn before outcome → AreLawful (accepted caller number command outcome)
accepted_lawful before caller number command outcome called ge le leads =
    let lawful : AreLawful outcome.book = leads.lawful in
    let n : ℕ = caller_number caller in
    let last : Last = record { number = number; command = command; made = outcome.made } in
    record {
      blank = λ none. absurd (leads.begun none);
      few_entries = lawful.few_entries;
      keys = lawful.keys;
      few_leagues = lawful.few_leagues;
      leagues = lawful.leagues;
      memberships = lawful.memberships;
      few_cups = lawful.few_cups;
      cups = lawful.cups;
      lasts = λ c other at. elim (cases_eq c n) [
        | inl here ↦
            let is : last ≡ other =
            same_Some last other (sym (ap (at_id (placed_at outcome.book.lasts n ((n, last) ∷ []))) here ∙ placed_same outcome.book.lasts ((n, last) ∷ []) n ∙ one_same n last) ∙ at) in
            subst (λ c. IsLawfulLast outcome.book.entries outcome.book.leagues outcome.book.cups c other) (sym here)
            (subst (λ (l : Last). IsLawfulLast outcome.book.entries outcome.book.leagues outcome.book.cups n l) is
            (record { issued = issued caller called; from_one = ge; most = le; there = leads.made }))
        | inr apart ↦ lawful.lasts c other (sym (placed_other outcome.book.lasts ((n, last) ∷ []) n c apart (one_other n c last apart)) ∙ at)
      ];
    }
  where
    issued : (caller : Caller) → IsCaller before caller → (caller_number caller ≡ 0) ⊎ (is_issued outcome.book.entries (caller_number caller) ≡ true)
    issued Operator called = inl refl
    issued (Entry e) called = inr (leads.issued e called)

module _ (book : Book) (order : IsInOrder book) (lawful : AreLawful book) (early : AreEarly book) where
  -- the facts
  unless_lawful : (facts : Facts) (broken : Option Rule) → gameweeks_of book ≤ length facts.calendar.deadlines → StaysLawful book (ruled_by book (unless_refused broken facts))
  unless_lawful facts None le = record {
    lawful = with_facts book (Some facts) lawful (λ is. absurd (none-some facts (sym is))) le;
    begun = λ is. none-some facts (sym is);
    made = tt;
    issued = λ e is. is;
  }
  unless_lawful facts (Some rule) le = tt

  weeks_kept : (facts : Facts) (command : Command) → length facts.calendar.deadlines ≤ length (changed_by facts command).calendar.deadlines
  weeks_kept facts (command.Deadline g t) = omega (arith, length-set facts.calendar.deadlines (g - 1) t)
  weeks_kept facts command = omega arith

  weeks_of : (some : Option Facts) → book.facts ≡ some → gameweeks_of book ≡ option_map_or (λ (facts : Facts). length facts.calendar.deadlines) some 0
  weeks_of some is = ap (λ some. option_map_or (λ (facts : Facts). length facts.calendar.deadlines) some 0) is

  changed_lawful : (now : ℕ) (command : Command) (facts : Facts) (begins_one there : Bool) → book.facts ≡ Some facts
      → StaysLawful book (ruled_by book (if begins_one then Err (answer.Rule rule.SeasonThere) else if there then unless_refused (refusal_of facts now command) (changed_by facts command) else Err answer.Unknown))
  changed_lawful now command facts true there is = tt
  changed_lawful now command facts false false is = tt
  changed_lawful now command facts false true is =
      unless_lawful (changed_by facts command) (refusal_of facts now command) (omega (arith, weeks_of (Some facts) is, weeks_kept facts command))

  begun_lawful : (some : Option Facts) → book.facts ≡ None → StaysLawful book (ruled_by book (begun some))
  begun_lawful None is = tt
  begun_lawful (Some facts) is = unless_lawful facts (deadlines_order facts.calendar.deadlines) (omega (arith, weeks_of None is))

  judged_lawful : (now : ℕ) (command : Command) (some : Option Facts) → book.facts ≡ some → StaysLawful book (ruled_by book (judged some now command))
  judged_lawful now command None is = begun_lawful (begun_by command) is
  judged_lawful now command (Some facts) is = changed_lawful now command facts (is_some (begun_by command)) (are_there facts command) is

  -- other parts, in a season
  there_lawful : (outcome : Outcome) (there : Bool) (broken : Option Rule) → (there ≡ true → broken ≡ None → LeadsOn book outcome)
      → StaysLawful book (if there then unless_broken broken outcome else Err answer.Unknown)
  there_lawful outcome true None leads = leads refl refl
  there_lawful outcome true (Some rule) leads = tt
  there_lawful outcome false broken leads = tt

  in_season_lawful : (ruled : Facts → Result Outcome Answer) → ((facts : Facts) → book.facts ≡ Some facts → StaysLawful book (ruled facts)) → (some : Option Facts) → book.facts ≡ some → StaysLawful book (in_season some ruled)
  in_season_lawful ruled each None is = tt
  in_season_lawful ruled each (Some facts) is = each facts is

  -- a new entry
  key_lawful : (operator key name : List ℕ) (facts : Facts) → book.facts ≡ Some facts → StaysLawful book (unless_broken (key_refusal operator book.entries key) (with_entry book key name))
  key_lawful operator key name facts there = there_lawful (with_entry book key name) true (key_refusal operator book.entries key) (λ yes unbroken.
      let new : EntryFacts = record { key = key; name = name; history = [] } in
      let room = room_and_new operator book.entries key name unbroken in
      let grown : IsGrown book.entries (book.entries ++ new ∷ []) = grown_more book.entries key name in
      let weeks : ℕ = gameweeks_of book in
      record {
        lawful = record {
          blank = λ is. absurd (none-some facts (sym is ∙ there));
          few_entries = omega (arith, ltb-true (length book.entries) most_entries room.0, length-append {A = EntryFacts} book.entries (new ∷ []));
          keys = keys_more operator book.entries key name room.1 lawful.keys;
          few_leagues = lawful.few_leagues;
          leagues = λ l league at. league_kept book.entries (book.entries ++ new ∷ []) grown weeks weeks (omega arith) league (lawful.leagues l league at);
          memberships = lawful.memberships;
          few_cups = lawful.few_cups;
          cups = λ c cup at. cup_kept book.entries (book.entries ++ new ∷ []) grown weeks weeks (omega arith) cup (lawful.cups c cup at);
          lasts = λ c last at.
              last_kept book.entries (book.entries ++ new ∷ []) grown book.leagues book.leagues (λ l is. is) book.cups book.cups (λ c is. is) c last (lawful.lasts c last at);
        };
        begun = λ is. none-some facts (sym is ∙ there);
        made = last_there book.entries new;
        issued = grown.issued;
      })

  -- another name and another position of a player
  amend_lawful : (given : Amendment) (facts : Facts) → book.facts ≡ Some facts → StaysLawful book (amend_ruled book facts given)
  amend_lawful given facts there =
      there_lawful (record { made = made.Nothing; book = record book { facts = Some (facts_amended facts given) } })
      (has_player facts given.player) (position_refusal facts (have_had book.entries given.player) given) (λ has unbroken. record {
        lawful = with_facts book (Some (facts_amended facts given)) lawful (λ none. absurd (none-some (facts_amended facts given) (sym none)))
            (subst (λ (some : Option Facts). option_map_or (λ (facts : Facts). length facts.calendar.deadlines) some 0 ≤ length facts.calendar.deadlines) (sym there) (omega arith));
        begun = λ none. none-some (facts_amended facts given) (sym none);
        made = tt;
        issued = λ e is. is;
      })

  -- another key of an entry
  rekey_lawful : (operator : List ℕ) (given : NewKey) (facts : Facts) → book.facts ≡ Some facts → StaysLawful book (key_ruled operator book given)
  rekey_lawful operator given facts there =
      there_lawful (record { made = made.Nothing; book = record book { entries = entries_rekeyed book.entries given } })
      (is_issued book.entries given.entry) (rekey_refusal operator (keys_of book.entries) given.entry given.key) (λ issued unbroken.
      let found = there_is (entry_in book.entries given.entry) issued in
      let after : List EntryFacts = entries_rekeyed book.entries given in
      let grown : IsGrown book.entries after = grown_rekeyed book.entries given in
      let weeks : ℕ = gameweeks_of book in
      record {
        lawful = record {
          blank = λ is. absurd (none-some facts (sym is ∙ there));
          few_entries = subst (λ n. n ≤ most_entries) (sym (length_changed (with_key given) book.entries given.entry)) lawful.few_entries;
          keys = keys_rekeyed operator book.entries given found.0 found.1 lawful.keys unbroken;
          few_leagues = lawful.few_leagues;
          leagues = λ l league at. league_kept book.entries after grown weeks weeks (omega arith) league (lawful.leagues l league at);
          memberships = lawful.memberships;
          few_cups = lawful.few_cups;
          cups = λ c cup at. cup_kept book.entries after grown weeks weeks (omega arith) cup (lawful.cups c cup at);
          lasts = λ c last at. last_kept book.entries after grown book.leagues book.leagues (λ l is. is) book.cups book.cups (λ c is. is) c last (lawful.lasts c last at);
        };
        begun = λ is. none-some facts (sym is ∙ there);
        made = tt;
        issued = grown.issued;
      })

  -- what a manager does
  deed_lawful : (e : ℕ) (facts : Facts) (entry : EntryFacts) (more : List Event) → book.facts ≡ Some facts → entry_in book.entries e ≡ Some entry
      → LeadsOn book (record { made = made.Nothing; book = with_history book e (entry.history ++ more) })
  deed_lawful e facts entry more there at =
      let after : List EntryFacts = histories_with book.entries e (entry.history ++ more) in
      let grown : IsGrown book.entries after = grown_history book.entries e entry more at in
      let weeks : ℕ = gameweeks_of book in
      record {
        lawful = record {
          blank = λ is. absurd (none-some facts (sym is ∙ there));
          few_entries = subst (λ n. n ≤ most_entries) (sym (length_histories book.entries e (entry.history ++ more))) lawful.few_entries;
          keys = keys_kept book.entries e (entry.history ++ more) entry at lawful.keys;
          few_leagues = lawful.few_leagues;
          leagues = λ l league at. league_kept book.entries after grown weeks weeks (omega arith) league (lawful.leagues l league at);
          memberships = lawful.memberships;
          few_cups = lawful.few_cups;
          cups = λ c cup at. cup_kept book.entries after grown weeks weeks (omega arith) cup (lawful.cups c cup at);
          lasts = λ c last at. last_kept book.entries after grown book.leagues book.leagues (λ l is. is) book.cups book.cups (λ c is. is) c last (lawful.lasts c last at);
        };
        begun = λ is. none-some facts (sym is ∙ there);
        made = tt;
        issued = grown.issued;
      }

  of_entry : (e : ℕ) (command : Command) (facts : Facts) (entry : Option EntryFacts) → book.facts ≡ Some facts → entry_in book.entries e ≡ entry → StaysLawful book (ruled_of book facts e command entry)
  of_entry e command facts None there at = tt
  of_entry e command facts (Some entry) there at =
      there_lawful (record { made = made.Nothing; book = with_history book e (history_after facts entry.history command) })
      (names_players facts command) (deed_refusal facts entry.history command) (λ yes unbroken. deed_lawful e facts entry _ there at)

  deeds_lawful : (caller : Caller) (command : Command) → StaysLawful book (ruled_for book caller command)
  deeds_lawful caller command =
      in_season_lawful (λ facts. ruled_of book facts (caller_number caller) command (entry_in book.entries (caller_number caller)))
      (λ facts there. of_entry (caller_number caller) command facts (entry_in book.entries (caller_number caller)) there refl) book.facts refl

  -- the next gameweek is not after one that is not locked
  next_in_time : (facts : Facts) (start : ℕ) → book.facts ≡ Some facts → nat_lt facts.calendar.locked start ≡ true → gameweek_of book ≤ start
  next_in_time facts start there later =
      subst (λ n. n ≤ start) (sym (ap (λ some. option_map_or (λ (facts : Facts). gameweek_seen facts.calendar) some 0) there))
      (omega (arith, ltb-true facts.calendar.locked start later))

  -- other leagues
  with_leagues : (facts : Facts) (e : ℕ) (command : Command) → book.facts ≡ Some facts → length (leagues_after book.leagues e command) ≤ most_leagues
      → ((l : ℕ) (league : LeagueFacts) → entry_in (leagues_after book.leagues e command) l ≡ Some league → IsLawfulLeague book.entries (gameweeks_of book) league)
      → ((x : ℕ) → count_by (λ league. is_member league x) (leagues_after book.leagues e command) ≤ most_leagues_of_one)
      → ((l : ℕ) → is_some (entry_in book.leagues l) ≡ true → is_some (entry_in (leagues_after book.leagues e command) l) ≡ true)
      → IsMade book.entries (leagues_after book.leagues e command) book.cups (league_made book.leagues command)
      → LeadsOn book (record { made = league_made book.leagues command; book = record book { leagues = leagues_after book.leagues e command } })
  with_leagues facts e command there few each rooms stay made = record {
    lawful = record {
      blank = λ is. absurd (none-some facts (sym is ∙ there));
      few_entries = lawful.few_entries;
      keys = lawful.keys;
      few_leagues = few;
      leagues = each;
      memberships = λ x. subst (λ n. n ≤ most_leagues_of_one) (sym (leagues_count 1 (leagues_after book.leagues e command) x)) (rooms x);
      few_cups = lawful.few_cups;
      cups = lawful.cups;
      lasts = λ c last at.
          last_kept book.entries book.entries (grown_same book.entries) book.leagues (leagues_after book.leagues e command) stay book.cups book.cups (λ c is. is) c last (lawful.lasts c last at);
    };
    begun = λ is. none-some facts (sym is ∙ there);
    made = made;
    issued = λ e is. is;
  }

  -- how many leagues an entry is in
  counted : (x : ℕ) → count_by (λ league. is_member league x) book.leagues ≤ most_leagues_of_one
  counted x = subst (λ n. n ≤ most_leagues_of_one) (leagues_count 1 book.leagues x) (lawful.memberships x)

  room_left : (e : ℕ) → has_room_for_league book.leagues e ≡ true → count_by (λ league. is_member league e) book.leagues < most_leagues_of_one
  room_left e room = subst (λ n. n < most_leagues_of_one) (leagues_count 1 book.leagues e) (ltb-true (length (leagues_of book.leagues e)) most_leagues_of_one room)

  create_lawful : (facts : Facts) (e : ℕ) (kind : LeagueKind) (name code : List ℕ) (start : ℕ) → book.facts ≡ Some facts → has_gameweek facts start ≡ true
      → league_refusal facts (is_registered book.entries e) book.leagues e (command.League kind name code start) ≡ None
      → LeadsOn book (record { made = league_made book.leagues (command.League kind name code start); book = record book { leagues = leagues_after book.leagues e (command.League kind name code start) } })
  create_lawful facts e kind name code start there has unbroken =
      let new : LeagueFacts = new_league kind name code start e in
      let registered = passed (is_registered book.entries e) rule.NotRegistered _ unbroken in
      let later = passed (nat_lt facts.calendar.locked start) (rule.StartPassed start) _ (lone (create_refusal book.leagues e start facts.calendar.locked) registered.1) in
      let rooms = and_parts (nat_lt (length book.leagues) most_leagues) (has_room_for_league book.leagues e) (passed (nat_lt (length book.leagues) most_leagues && has_room_for_league book.leagues e) rule.LeaguesFull [] later.1).0 in
      with_leagues facts e (command.League kind name code start) there
      (omega (arith, ltb-true (length book.leagues) most_leagues rooms.0, length-append {A = LeagueFacts} book.leagues (new ∷ [])))
      (λ l league at. elim (more_from book.leagues new l league at) [
        | inl old ↦ lawful.leagues l league old
        | inr is ↦
            subst (λ (league : LeagueFacts). IsLawfulLeague book.entries (gameweeks_of book) league) (sym is)
            (new_lawful book.entries (gameweeks_of book) kind name code start e registered.0
            (omega (arith, ltb-true facts.calendar.locked start later.0))
            (omega (arith, leb-true start (length facts.calendar.deadlines) has, weeks_of (Some facts) there)))
      ])
      (λ x. subst (λ n. n ≤ most_leagues_of_one) (sym (count_more (λ league. is_member league x) book.leagues new)) (own x e rooms.1))
      (stays_beside book.leagues (new ∷ []))
      (last_there book.leagues new)
    where
      own : (x e : ℕ) → has_room_for_league book.leagues e ≡ true → count_by (λ league. is_member league x) book.leagues + cond (e == x || false) 1 0 ≤ most_leagues_of_one
      own x e room = elim (cases_eq e x) [
        | inl same ↦
            let left : count_by (λ league. is_member league x) book.leagues < most_leagues_of_one = subst (λ x. count_by (λ league. is_member league x) book.leagues < most_leagues_of_one) same (room_left e room) in
            omega (arith, left, at_most (e == x || false))
        | inr other ↦ let apart : (e == x || false) ≡ false = grind (arith, nat_tests, other) in rw apart (omega (arith, counted x))
      ]
        where
          at_most : (b : Bool) → cond b 1 0 ≤ 1
          at_most true = omega arith
          at_most false = omega arith

  join_lawful : (facts : Facts) (e l : ℕ) (code : List ℕ) → book.facts ≡ Some facts → is_some (entry_in book.leagues l) ≡ true
      → league_refusal facts (is_registered book.entries e) book.leagues e (command.Join l code) ≡ None
      → LeadsOn book (record { made = made.Nothing; book = record book { leagues = changed_in (with_member e) book.leagues l } })
  join_lawful facts e l code there has unbroken =
      let found = there_is (entry_in book.leagues l) has in
      let league : LeagueFacts = found.0 in
      let registered = passed (is_registered book.entries e) rule.NotRegistered _ unbroken in
      let all : join_refusal book.leagues e league code ≡ None =
      sym (ap (option_and_then (λ league. join_refusal book.leagues e league code)) found.1) ∙ lone (option_and_then (λ league. join_refusal book.leagues e league code) (entry_in book.leagues l)) registered.1 in
      let undrawn = passed (not (is_drawn league)) rule.LeagueClosed _ all in
      let coded = passed (bytes_eq code league.code) rule.Code _ undrawn.1 in
      let fresh = passed (not (is_member league e)) rule.Member _ coded.1 in
      let room = passed (has_room_for_league book.leagues e) rule.LeaguesFull _ fresh.1 in
      let few = passed (nat_lt (length league.members) (most_members league.kind)) rule.MembersFull [] room.1 in
      with_leagues facts e (command.Join l code) there
      (subst (λ n. n ≤ most_leagues) (sym (length_changed (with_member e) book.leagues l)) lawful.few_leagues)
      (λ q other at. elim (changed_at (with_member e) book.leagues l league found.1 q other at) [
        | inl old ↦ lawful.leagues q other old
        | inr is ↦
            subst (λ (league : LeagueFacts). IsLawfulLeague book.entries (gameweeks_of book) league) (sym is)
            (joined_lawful book.entries (gameweeks_of book) league e (lawful.leagues l league found.1) (grind (arith, nat_tests, undrawn.0)) registered.0
            (ltb-true (length league.members) (most_members league.kind) few.0))
      ])
      (λ x. elim (cases_eq x e) [
        | inl same ↦
            omega (
              arith,
              count_changed (λ league. is_member league x) (with_member e) book.leagues l,
              subst (λ x. count_by (λ league. is_member league x) book.leagues < most_leagues_of_one) (sym same) (room_left e room.0),
            )
        | inr other ↦
            subst (λ n. n ≤ most_leagues_of_one) (sym (count_same (λ league. is_member league x) (with_member e) (λ league. sym (member_beside league.members e x other)) book.leagues l)) (counted x)
      ])
      (stays_changed (with_member e) book.leagues l)
      tt

  draw_lawful : (facts : Facts) (e l : ℕ) (places : List ℕ) → length places ≤ 64 → book.facts ≡ Some facts → is_some (entry_in book.leagues l) ≡ true
      → league_refusal facts (is_registered book.entries e) book.leagues e (command.Draw l places) ≡ None
      → LeadsOn book (record { made = made.Nothing; book = record book { leagues = changed_in (with_order places) book.leagues l } })
  draw_lawful facts e l places short there has unbroken =
      let found = there_is (entry_in book.leagues l) has in
      let league : LeagueFacts = found.0 in
      let all : draw_refusal league places facts.calendar.locked ≡ None =
      sym (ap (option_and_then (λ league. draw_refusal league places facts.calendar.locked)) found.1) ∙ unbroken in
      let undrawn = passed (not (is_drawn league)) rule.LeagueClosed _ all in
      let later = passed (nat_lt facts.calendar.locked league.start) (rule.StartPassed league.start) _ undrawn.1 in
      let head = passed (is_head league.kind) rule.DrawWrong _ later.1 in
      let right : is_draw places league.members ≡ true = of_draw (is_draw places league.members) (lone (wrong_draw places league.members) head.1) in
      with_leagues facts e (command.Draw l places) there
      (subst (λ n. n ≤ most_leagues) (sym (length_changed (with_order places) book.leagues l)) lawful.few_leagues)
      (λ q other at. elim (changed_at (with_order places) book.leagues l league found.1 q other at) [
        | inl old ↦ lawful.leagues q other old
        | inr is ↦
            subst (λ (league : LeagueFacts). IsLawfulLeague book.entries (gameweeks_of book) league) (sym is)
            (drawn_lawful book.entries (gameweeks_of book) league places (lawful.leagues l league found.1) (order.members l league found.1) short head.0 right
            (λ e registered. early_plays book league.start e early (next_in_time facts league.start there later.0) registered))
      ])
      (λ x. subst (λ n. n ≤ most_leagues_of_one) (sym (count_same (λ league. is_member league x) (with_order places) (λ league. refl) book.leagues l)) (counted x))
      (stays_changed (with_order places) book.leagues l)
      tt
    where
      of_draw : (b : Bool) → (if b then None else Some rule.DrawWrong) ≡ None → b ≡ true
      of_draw true is = refl
      of_draw false is = absurd (none-some rule.DrawWrong (sym is))

  leagues_lawful : (e : ℕ) (command : Command)
      → ((facts : Facts) → book.facts ≡ Some facts → leagues_there facts (is_issued book.entries) book.leagues command ≡ true
      → league_refusal facts (is_registered book.entries e) book.leagues e command ≡ None
      → LeadsOn book (record { made = league_made book.leagues command; book = record book { leagues = leagues_after book.leagues e command } }))
      → StaysLawful book (in_season book.facts (λ facts. leagues_ruled book facts e command))
  leagues_lawful e command leads =
      in_season_lawful (λ facts. leagues_ruled book facts e command) (λ facts there.
      there_lawful (record { made = league_made book.leagues command; book = record book { leagues = leagues_after book.leagues e command } })
      (leagues_there facts (is_issued book.entries) book.leagues command) (league_refusal facts (is_registered book.entries e) book.leagues e command)
      (leads facts there)) book.facts refl

  -- a new cup
  cup_lawful : (facts : Facts) (cup : Bracket) → length cup.slots ≤ 1024 → All (λ coin. coin ≤ 1) cup.coins → book.facts ≡ Some facts
      → cup_there facts (is_issued book.entries) cup ≡ true → cup_broken facts (is_registered book.entries) (length book.cups) cup ≡ None
      → LeadsOn book (record { made = cup_made book.cups; book = record book { cups = book.cups ++ cup ∷ [] } })
  cup_lawful facts cup few small there has unbroken =
      let weeks : ℕ = length facts.calendar.deadlines in
      let all = open_cup (is_registered book.entries) (length book.cups) cup weeks facts.calendar.locked unbroken in
      let start = and_parts (has_gameweek facts cup.start) (list_all (is_issued book.entries) (entrants cup.slots)) has in
      let new : IsLawfulCup book.entries weeks cup = record {
        from_one = omega (arith, all.later);
        in_season = leb-true cup.start weeks start.0;
        playable = all.playable;
        play = all_also (is_registered book.entries) (plays_from book.entries cup.start)
            (λ e registered. early_plays book cup.start e early (next_in_time facts cup.start there (lt-ltb facts.calendar.locked cup.start all.later)) registered)
            (entrants cup.slots) all.all;
        few = few;
        coins = coins_small cup.coins small;
      } in
      record {
        lawful = record {
          blank = λ is. absurd (none-some facts (sym is ∙ there));
          few_entries = lawful.few_entries;
          keys = lawful.keys;
          few_leagues = lawful.few_leagues;
          leagues = lawful.leagues;
          memberships = lawful.memberships;
          few_cups = omega (arith, all.room, length-append {A = Bracket} book.cups (cup ∷ []));
          cups = λ c other at. elim (more_from book.cups cup c other at) [
            | inl old ↦ lawful.cups c other old
            | inr is ↦
                subst (λ (b : Bracket). IsLawfulCup book.entries (gameweeks_of book) b) (sym is)
                (subst (λ n. IsLawfulCup book.entries n cup) (sym (weeks_of (Some facts) there)) new)
          ];
          lasts = λ c last at.
              last_kept book.entries book.entries (grown_same book.entries) book.leagues book.leagues (λ l is. is) book.cups (book.cups ++ cup ∷ []) (stays_beside book.cups (cup ∷ [])) c last (lawful.lasts c last at);
        };
        begun = λ is. none-some facts (sym is ∙ there);
        made = last_there book.cups cup;
        issued = λ e is. is;
      }

  cups_lawful : (start : ℕ) (slots coins : List ℕ) → length slots ≤ 1024 → All (λ coin. coin ≤ 1) coins
      → StaysLawful book (in_season book.facts (λ facts. cups_ruled book facts (command.Cup start slots coins)))
  cups_lawful start slots coins few small =
      let b : Bracket = record { start = start; slots = slots; coins = coins } in
      in_season_lawful (λ facts. cups_ruled book facts (command.Cup start slots coins)) (λ facts there.
      there_lawful (record { made = cup_made book.cups; book = record book { cups = book.cups ++ b ∷ [] } })
      (cup_there facts (is_issued book.entries) b) (cup_broken facts (is_registered book.entries) (length book.cups) b)
      (cup_lawful facts b few small there)) book.facts refl

  -- each
  ruled_lawful : (operator : List ℕ) (caller : Caller) (now : ℕ) (command : Command) → IsCommand command → StaysLawful book (ruled operator book caller now command)
  ruled_lawful operator caller now (command.Key key name) is =
      in_season_lawful (λ facts. keyed operator book (command.Key key name)) (key_lawful operator key name) book.facts refl
  ruled_lawful operator caller now (command.AmendPlayer p name position) is =
      in_season_lawful (λ facts. amends_ruled book facts (command.AmendPlayer p name position)) (amend_lawful (record { player = p; name = name; position = position })) book.facts refl
  ruled_lawful operator caller now (command.Rekey e key name) is =
      in_season_lawful (λ facts. keys_ruled operator book (command.Rekey e key name)) (rekey_lawful operator (record { entry = e; key = key; name = name })) book.facts refl
  ruled_lawful operator caller now (command.Squad players captain vice) is = deeds_lawful caller (command.Squad players captain vice)
  ruled_lawful operator caller now (command.Transfers swaps) is = deeds_lawful caller (command.Transfers swaps)
  ruled_lawful operator caller now (command.Lineup players captain vice) is = deeds_lawful caller (command.Lineup players captain vice)
  ruled_lawful operator caller now (command.Chip chip) is = deeds_lawful caller (command.Chip chip)
  ruled_lawful operator caller now command.CancelChip is = deeds_lawful caller command.CancelChip
  ruled_lawful operator caller now (command.League kind name code start) is =
      let e : ℕ = caller_number caller in
      leagues_lawful e (command.League kind name code start) (λ facts. create_lawful facts e kind name code start)
  ruled_lawful operator caller now (command.Join l code) is =
      let e : ℕ = caller_number caller in
      leagues_lawful e (command.Join l code) (λ facts. join_lawful facts e l code)
  ruled_lawful operator caller now (command.Draw l places) is =
      let e : ℕ = caller_number caller in
      leagues_lawful e (command.Draw l places) (λ facts there has.
      draw_lawful facts e l places is there (and_parts (is_some (entry_in book.leagues l)) (list_all (is_issued book.entries) places) has).0)
  ruled_lawful operator caller now (command.Cup start slots coins) is = cups_lawful start slots coins is.0 is.2
  ruled_lawful operator caller now command is = judged_lawful now command book.facts refl

  settled_lawful : (caller : Caller) (number : ℕ) (command : Command) (due : Result Outcome Answer) → IsCaller book caller → 1 ≤ number → number ≤ 9223372036854775807
      → StaysLawful book due → AreLawful (settled book caller number command due).book
  settled_lawful caller number command (Err refused) called ge le stays = lawful
  settled_lawful caller number command (Ok outcome) called ge le stays = accepted_lawful book caller number command outcome called ge le stays

  numbered_lawful : (broken : Option Rule) (verdict : Verdict) → AreLawful verdict.book → AreLawful (unless_misnumbered broken book verdict).book
  numbered_lawful (Some broken) verdict stays = lawful
  numbered_lawful None verdict stays = stays

pub verdicts_keep_laws : VerdictsKeepLaws
verdicts_keep_laws operator book caller now (request.View view) verdict order lawful early asked called is = subst AreLawful (sym (ap (λ (v : Verdict). v.book) is)) lawful
verdicts_keep_laws operator book caller now (request.Command number command) verdict order lawful early asked called (inl (made, again, is)) =
    subst AreLawful (sym (ap (λ (v : Verdict). v.book) is)) lawful
verdicts_keep_laws operator book caller now (request.Command number command) verdict order lawful early asked called (inr (fresh, is)) =
    let due : Result Outcome Answer = ruled operator book caller now command in
    subst AreLawful (sym (ap (λ (v : Verdict). v.book) is))
    (numbered_lawful book order lawful early (number_refusal (last_number book caller) number) (settled book caller number command due)
    (settled_lawful book order lawful early caller number command due called asked.0 asked.1 (ruled_lawful book order lawful early operator caller now command asked.2)))
