-- What a caller's command leads books to that are the same to him.
use Rattle.std.proofs.Common.{◌≡◌, ◌+◌, ℕ, Bool, true, false, not, ◌||◌, ◌&&◌, if◌then◌else◌, nat_lt, List, [], ◌∷◌, ◌++◌, Option, Some, None, length, arith, refl, sym, ap, ◌∙◌, subst}
use Rattle.std.specs.Prelude.{Result, Ok, Err, is_some}
use Rattle.std.specs.Option.{option_map, option_map_or}
use Rattle.std.proofs.lemmas.Bool.Decides.{nat_tests}
use Rattle.std.proofs.lemmas.Option.{same_Some}
use Rattle.fpl_base.specs.declared.kinds.Caller.{Caller}
use Rattle.fpl_base.specs.declared.rule.Rule.{Rule}
use Rattle.fpl_base.specs.declared.rule.Rule.TheVariants as rule
use Rattle.rule_book.specs.declared.cup.Bracket.{Bracket}
use Rattle.rule_book.specs.Batch.{is_same_position}
use Rattle.rule_book.specs.ById.{at_id, placed_at}
use Rattle.rule_book.specs.Entries.{entry_in, most_entries}
use Rattle.rule_book.specs.History.{Event}
use Rattle.rule_book.specs.Leagues.{LeagueFacts}
use Rattle.rule_book.specs.PlayerFigures.{position_in}
use Rattle.rule_book.specs.Refusals.{first_broken, unless}
use Rattle.rule_book.specs.UpTo.{AgreeUpTo}
use Rattle.rule_book.specs.Uses.{has_lines}
use Rattle.rule_book.proofs.AtId.{placed_same}
use Rattle.season_book.specs.Book.{Book, EntryFacts, Facts, Last, caller_number}
use Rattle.season_book.specs.Commands.{has_player, part_of}
use Rattle.season_book.specs.declared.command.Command.{Command}
use Rattle.season_book.specs.declared.command.Command.TheVariants as command
use Rattle.season_book.specs.declared.made.Made.TheVariants as made
use Rattle.season_book.specs.declared.part.Part.{Part}
use Rattle.season_book.specs.declared.part.Part.TheVariants as part
use Rattle.season_book.specs.EntryCommands.{deed_refusal, history_after, names_players}
use Rattle.season_book.specs.Hosts.{caller_with, keys_of}
use Rattle.season_book.specs.KeyCommands.{NewKey, entries_rekeyed, key_given, rekey_refusal}
use Rattle.season_book.specs.LeagueCommands.{cup_broken, cup_drawn, cup_made, cup_there, is_issued, is_registered, league_made, league_refusal, leagues_after, leagues_there}
use Rattle.season_book.specs.PlayerCommands.{Amendment, amendment, facts_amended, have_had, position_refusal}
use Rattle.season_book.specs.Verdict.{Outcome, amend_ruled, amends_ruled, cup_ruled, cups_ruled, in_season, judged, key_refusal, key_ruled, keyed, keys_ruled, leagues_ruled, locked_at, pass, ruled, ruled_by, ruled_for, ruled_in, ruled_of, unless_broken, with_entry, with_history}
use Rattle.season_book.specs.declared.answer.Answer.{Answer}
use Rattle.season_book.specs.declared.answer.Answer.TheVariants as answer
use Rattle.season_book.specs.Agree.{Agree, EntriesAlike, SameWhereLocked}
use Rattle.season_book.specs.Isolation.{CommandsAreIsolated, RuledAlike, SameUse, asks_entries}
use Rattle.season_book.proofs.EntriesFacts.{as_many, by_other_facts, issued_alike, keys_alike, one_goes_on, one_more, one_rekeyed, own_goes_on, own_of_more, own_rekeyed, registered_alike}
use Rattle.season_book.proofs.LockFacts.{locks_again, still_locked}

one_same : (k : ℕ) (x : Last) → at_id ((k, x) ∷ []) k ≡ Some x
one_same k x = grind (arith, nat_tests)

last_placed : (lasts : List (ℕ × Last)) (k : ℕ) (x : Last) → at_id (placed_at lasts k ((k, x) ∷ [])) k ≡ Some x
last_placed lasts k x = placed_same lasts ((k, x) ∷ []) k ∙ one_same k x

-- what has to be the same of two books so that they are the same to a caller behind his command
record Behind (caller : Caller) (now : ℕ) (book other : Book) : Type 0 where
  facts : book.facts ≡ other.facts
  leagues : book.leagues ≡ other.leagues
  cups : book.cups ≡ other.cups
  entries : EntriesAlike (option_map (locked_at now) book.facts) book.entries other.entries
  own : entry_in book.entries (caller_number caller) ≡ entry_in other.entries (caller_number caller)

same_key_refusal : (operator key : List ℕ) (entries others : List EntryFacts) → length entries ≡ length others → keys_of entries ≡ keys_of others → key_refusal operator entries key ≡ key_refusal operator others key
same_key_refusal operator key entries others many keys =
    λ i. first_broken (unless (nat_lt (many i) most_entries) rule.EntriesFull ∷ unless (not (is_some (caller_with operator (keys i) key))) rule.KeyThere ∷ [])

-- two who are told apart only where it is asked are refused alike
refused_alike : (same lines had also : Bool) (broken : Rule) → ((not same && not lines) ≡ true → had ≡ also)
    → (if same then None else if had || lines then Some broken else None) ≡ (if same then None else if also || lines then Some broken else None)
refused_alike true lines had also broken alike = refl
refused_alike false true true true broken alike = refl
refused_alike false true true false broken alike = refl
refused_alike false true false true broken alike = refl
refused_alike false true false false broken alike = refl
refused_alike false false had also broken alike = ap (λ b. if b || false then Some broken else None) (alike refl)

both_true : (a b : Bool) → a ≡ true → b ≡ true → (a && b) ≡ true
both_true a b one two = subst (λ x. (x && b) ≡ true) (sym one) two

module _ (operator : List ℕ) (caller : Caller) (now number : ℕ) (order : Command) (book other : Book) (a : Agree caller now book other) (use_same : SameUse order book other) where
  abbrev one : Book
  one = pass book now

  abbrev two : Book
  two = pass other now

  abbrev own : ℕ
  own = caller_number caller

  abbrev Same : Result Outcome Answer → Result Outcome Answer → Type 0
  Same = RuledAlike caller now number order

  accepted_alike : (outcome another : Outcome) → outcome.made ≡ another.made → Behind caller now outcome.book another.book → Same (Ok outcome) (Ok another)
  accepted_alike outcome another made b = (
    made,
    record {
      facts = ap (option_map (locked_at now)) b.facts;
      leagues = b.leagues;
      cups = b.cups;
      entries = b.entries;
      own = b.own;
      last =
          last_placed outcome.book.lasts own (record { number = number; command = order; made = outcome.made })
          ∙ ap (λ m. Some (record { number = number; command = order; made = m })) made
          ∙ sym (last_placed another.book.lasts own (record { number = number; command = order; made = another.made }));
    },
  )

  -- the moment told again
  entries_again : (entries others : List EntryFacts) → EntriesAlike one.facts entries others → EntriesAlike (option_map (locked_at now) one.facts) entries others
  entries_again entries others same = subst (λ f. EntriesAlike f entries others) (sym (locks_again now book.facts)) same

  -- commands on the facts
  judged_alike : (due : Result Facts Answer) → judged one.facts now order ≡ due → Same (ruled_by one due) (ruled_by two due)
  judged_alike (Err refused) is = refl
  judged_alike (Ok behind) is = accepted_alike (record { made = made.Nothing; book = record one { facts = Some behind } }) (record { made = made.Nothing; book = record two { facts = Some behind } }) refl (record {
    facts = refl;
    leagues = a.leagues;
    cups = a.cups;
    entries = by_other_facts one.facts (Some (locked_at now behind)) (still_locked book.facts now order behind is) one.entries two.entries a.entries;
    own = a.own;
  })

  facts_alike : Same (ruled_by one (judged one.facts now order)) (ruled_by two (judged two.facts now order))
  facts_alike = subst (λ f. Same (ruled_by one (judged one.facts now order)) (ruled_by two (judged f now order))) a.facts (judged_alike (judged one.facts now order) refl)

  -- a new entry
  entry_alike : (key name : List ℕ) (broken : Option Rule) → Same (unless_broken broken (with_entry one key name)) (unless_broken broken (with_entry two key name))
  entry_alike key name (Some broken) = refl
  entry_alike key name None =
      let new : EntryFacts = record { key = key; name = name; history = [] } in
      accepted_alike (with_entry one key name) (with_entry two key name) (ap (λ n. made.Entry (n + 1)) (as_many one.facts one.entries two.entries a.entries)) (record {
        facts = a.facts;
        leagues = a.leagues;
        cups = a.cups;
        entries = entries_again (with_entry one key name).book.entries (with_entry two key name).book.entries (one_more one.facts new one.entries two.entries a.entries);
        own = own_of_more one.facts new one.entries two.entries a.entries own a.own;
      })

  key_alike : (key name : List ℕ) → Same (unless_broken (key_refusal operator one.entries key) (with_entry one key name)) (unless_broken (key_refusal operator two.entries key) (with_entry two key name))
  key_alike key name =
      subst (λ broken. Same (unless_broken (key_refusal operator one.entries key) (with_entry one key name)) (unless_broken broken (with_entry two key name)))
      (same_key_refusal operator key one.entries two.entries (as_many one.facts one.entries two.entries a.entries) (keys_alike one.facts one.entries two.entries a.entries))
      (entry_alike key name (key_refusal operator one.entries key))

  keyed_alike : (c : Command) → Same (keyed operator one c) (keyed operator two c)
  keyed_alike (command.Key key name) = key_alike key name
  keyed_alike (command.Season a b c d) = refl
  keyed_alike (command.Deadline a b) = refl
  keyed_alike (command.Player a b c d e) = refl
  keyed_alike (command.Price a b) = refl
  keyed_alike (command.AmendPlayer a b c) = refl
  keyed_alike (command.Club a b) = refl
  keyed_alike (command.Gone a b) = refl
  keyed_alike (command.Fixture a b c d e) = refl
  keyed_alike (command.Move a b c) = refl
  keyed_alike (command.AmendFixture a b c) = refl
  keyed_alike (command.Sheet a b c) = refl
  keyed_alike (command.Line a b c) = refl
  keyed_alike (command.Drop a b) = refl
  keyed_alike (command.Finished a b) = refl
  keyed_alike (command.Rekey a b c) = refl
  keyed_alike (command.Squad a b c) = refl
  keyed_alike (command.Transfers a) = refl
  keyed_alike (command.Lineup a b c) = refl
  keyed_alike (command.Chip a) = refl
  keyed_alike command.CancelChip = refl
  keyed_alike (command.League a b c d) = refl
  keyed_alike (command.Join a b) = refl
  keyed_alike (command.Draw a b) = refl
  keyed_alike (command.Cup a b c) = refl

  keyed_in : (facts : Option Facts) → Same (in_season facts (λ f. keyed operator one order)) (in_season facts (λ f. keyed operator two order))
  keyed_in None = refl
  keyed_in (Some facts) = keyed_alike order

  entries_alike : Same (in_season one.facts (λ f. keyed operator one order)) (in_season two.facts (λ f. keyed operator two order))
  entries_alike = subst (λ facts. Same (in_season one.facts (λ f. keyed operator one order)) (in_season facts (λ f. keyed operator two order))) a.facts (keyed_in one.facts)

  -- another key of an entry
  abbrev rekeyed_in : Book → NewKey → Outcome
  rekeyed_in b given = record { made = made.Nothing; book = record b { entries = entries_rekeyed b.entries given } }

  abbrev rekeyed_if : Bool → Option Rule → Book → NewKey → Result Outcome Answer
  rekeyed_if there broken b given = if there then unless_broken broken (rekeyed_in b given) else Err answer.Unknown

  rekeyed_alike : (there : Bool) (broken : Option Rule) (given : NewKey) → Same (rekeyed_if there broken one given) (rekeyed_if there broken two given)
  rekeyed_alike false broken given = refl
  rekeyed_alike true (Some broken) given = refl
  rekeyed_alike true None given = accepted_alike (rekeyed_in one given) (rekeyed_in two given) refl (record {
    facts = a.facts;
    leagues = a.leagues;
    cups = a.cups;
    entries = entries_again (rekeyed_in one given).book.entries (rekeyed_in two given).book.entries (one_rekeyed one.facts given one.entries two.entries a.entries);
    own = own_rekeyed one.facts given one.entries two.entries a.entries own a.own;
  })

  given_alike : (given : NewKey) → Same (key_ruled operator one given) (key_ruled operator two given)
  given_alike given =
      let issued : is_issued one.entries given.entry ≡ is_issued two.entries given.entry = issued_alike one.facts one.entries two.entries a.entries given.entry in
      let keys : keys_of one.entries ≡ keys_of two.entries = keys_alike one.facts one.entries two.entries a.entries in
      subst (λ also. Same (key_ruled operator one given) also)
      (λ i. rekeyed_if (issued i) (rekey_refusal operator (keys i) given.entry given.key) two given)
      (rekeyed_alike (is_issued one.entries given.entry) (rekey_refusal operator (keys_of one.entries) given.entry given.key) given)

  given_by : (given : Option NewKey) → Same (option_map_or (key_ruled operator one) given (Err answer.Unknown)) (option_map_or (key_ruled operator two) given (Err answer.Unknown))
  given_by None = refl
  given_by (Some given) = given_alike given

  keys_by : (facts : Option Facts) → Same (in_season facts (λ f. keys_ruled operator one order)) (in_season facts (λ f. keys_ruled operator two order))
  keys_by None = refl
  keys_by (Some facts) = given_by (key_given order)

  keys_ruled_alike : Same (in_season one.facts (λ f. keys_ruled operator one order)) (in_season two.facts (λ f. keys_ruled operator two order))
  keys_ruled_alike = subst (λ facts. Same (in_season one.facts (λ f. keys_ruled operator one order)) (in_season facts (λ f. keys_ruled operator two order))) a.facts (keys_by one.facts)

  -- another name and position of a player
  abbrev amended_in : Book → Facts → Amendment → Outcome
  amended_in b facts given = record { made = made.Nothing; book = record b { facts = Some (facts_amended facts given) } }

  abbrev amended_if : Bool → Option Rule → Book → Facts → Amendment → Result Outcome Answer
  amended_if there broken b facts given = if there then unless_broken broken (amended_in b facts given) else Err answer.Unknown

  -- the facts behind it lock no further gameweek
  amended_locked : (some : Option Facts) (facts : Facts) (given : Amendment) → option_map (locked_at now) some ≡ Some facts → (h h2 : List Event) → SameWhereLocked (Some facts) h h2
      → SameWhereLocked (option_map (locked_at now) (Some (facts_amended facts given))) h h2
  amended_locked None facts given is h h2 same = cc
  amended_locked (Some before) facts given is h h2 same =
      let again : locked_at now facts ≡ facts = same_Some (locked_at now facts) facts (ap (option_map (locked_at now)) (sym is) ∙ locks_again now (Some before) ∙ is) in
      subst (λ k. AgreeUpTo k h h2) (sym (ap (λ (f : Facts). f.calendar.locked) again)) same

  amended_alike : (facts : Facts) → one.facts ≡ Some facts → (there : Bool) (broken : Option Rule) (given : Amendment) → Same (amended_if there broken one facts given) (amended_if there broken two facts given)
  amended_alike facts is false broken given = refl
  amended_alike facts is true (Some broken) given = refl
  amended_alike facts is true None given = accepted_alike (amended_in one facts given) (amended_in two facts given) refl (record {
    facts = refl;
    leagues = a.leagues;
    cups = a.cups;
    entries = by_other_facts (Some facts) (option_map (locked_at now) (Some (facts_amended facts given))) (amended_locked book.facts facts given is) one.entries two.entries
        (subst (λ f. EntriesAlike f one.entries two.entries) is a.entries);
    own = a.own;
  })

  -- what is asked of the entries is what was asked before the moment was told
  asked_before : (some : Option Facts) (facts : Facts) → option_map (locked_at now) some ≡ Some facts → (given : Amendment) → asks_entries some given ≡ asks_entries (Some facts) given
  asked_before None facts is given = cc
  asked_before (Some before) facts is given =
      subst (λ (f : Facts). asks_entries (Some before) given ≡ asks_entries (Some f) given) (same_Some (locked_at now before) facts is) refl

  told_of_entries : (c : Command) → SameUse c book other → (given : Amendment) → amendment c ≡ Some given → asks_entries book.facts given ≡ true
      → have_had one.entries given.player ≡ have_had two.entries given.player
  told_of_entries (command.AmendPlayer p name position) same given orders =
      subst (λ (g : Amendment). asks_entries book.facts g ≡ true → have_had one.entries g.player ≡ have_had two.entries g.player)
      (same_Some (record { player = p; name = name; position = position }) given orders) same
  told_of_entries c same given orders = cc

  amended_by : (facts : Facts) → one.facts ≡ Some facts → (given : Amendment) (there : Bool) (broken also : Option Rule) → (there ≡ true → broken ≡ also)
      → Same (amended_if there broken one facts given) (amended_if there also two facts given)
  amended_by facts is given false broken also same = refl
  amended_by facts is given true broken also same =
      subst (λ r. Same (amended_if true broken one facts given) (amended_if true r two facts given)) (same refl) (amended_alike facts is true broken given)

  amend_alike : (facts : Facts) → one.facts ≡ Some facts → (given : Amendment) → amendment order ≡ Some given → Same (amend_ruled one facts given) (amend_ruled two facts given)
  amend_alike facts is given orders =
      amended_by facts is given (has_player facts given.player)
      (position_refusal facts (have_had one.entries given.player) given) (position_refusal facts (have_had two.entries given.player) given)
      (λ there. refused_alike (is_same_position (position_in facts.players given.player) given.position) (has_lines facts.matches given.player)
      (have_had one.entries given.player) (have_had two.entries given.player) (rule.InUse given.player)
      (λ asks. told_of_entries order use_same given orders (asked_before book.facts facts is given ∙ both_true _ _ there asks)))

  amends_of : (facts : Facts) → one.facts ≡ Some facts → (given : Option Amendment) → amendment order ≡ given
      → Same (option_map_or (amend_ruled one facts) given (Err answer.Unknown)) (option_map_or (amend_ruled two facts) given (Err answer.Unknown))
  amends_of facts is None orders = refl
  amends_of facts is (Some given) orders = amend_alike facts is given orders

  amends_by : (facts : Option Facts) → one.facts ≡ facts → Same (in_season facts (λ f. amends_ruled one f order)) (in_season facts (λ f. amends_ruled two f order))
  amends_by None is = refl
  amends_by (Some facts) is = amends_of facts is (amendment order) refl

  amends_alike : Same (in_season one.facts (λ f. amends_ruled one f order)) (in_season two.facts (λ f. amends_ruled two f order))
  amends_alike = subst (λ facts. Same (in_season one.facts (λ f. amends_ruled one f order)) (in_season facts (λ f. amends_ruled two f order))) a.facts (amends_by one.facts refl)

  -- what the caller does
  abbrev done_in : Book → List Event → Outcome
  done_in b h = record { made = made.Nothing; book = with_history b own h }

  done_alike : (h : List Event) (named : Bool) (broken : Option Rule)
      → Same (if named then unless_broken broken (done_in one h) else Err answer.Unknown) (if named then unless_broken broken (done_in two h) else Err answer.Unknown)
  done_alike h false broken = refl
  done_alike h true (Some broken) = refl
  done_alike h true None = accepted_alike (done_in one h) (done_in two h) refl (record {
    facts = a.facts;
    leagues = a.leagues;
    cups = a.cups;
    entries = entries_again (done_in one h).book.entries (done_in two h).book.entries (one_goes_on one.facts h one.entries two.entries a.entries own);
    own = own_goes_on one.facts h one.entries two.entries own a.own;
  })

  deed_alike : (entry : Option EntryFacts) (facts : Facts) → Same (ruled_of one facts own order entry) (ruled_of two facts own order entry)
  deed_alike None facts = refl
  deed_alike (Some entry) facts = done_alike (history_after facts entry.history order) (names_players facts order) (deed_refusal facts entry.history order)

  deed_in : (entry : Option EntryFacts) (facts : Option Facts) → Same (in_season facts (λ f. ruled_of one f own order entry)) (in_season facts (λ f. ruled_of two f own order entry))
  deed_in entry None = refl
  deed_in entry (Some facts) = deed_alike entry facts

  deeds_alike : Same (ruled_for one caller order) (ruled_for two caller order)
  deeds_alike =
      subst (λ facts. Same (ruled_for one caller order) (in_season facts (λ f. ruled_of two f own order (entry_in two.entries own)))) a.facts
      (subst (λ entry. Same (ruled_for one caller order) (in_season one.facts (λ f. ruled_of two f own order entry))) a.own (deed_in (entry_in one.entries own) one.facts))

  -- leagues
  abbrev led_in : Book → List LeagueFacts → Outcome
  led_in b leagues = record { made = league_made leagues order; book = record b { leagues = leagues_after leagues own order } }

  abbrev led_if : Bool → Option Rule → Book → List LeagueFacts → Result Outcome Answer
  led_if there broken b leagues = if there then unless_broken broken (led_in b leagues) else Err answer.Unknown

  led_alike : (there : Bool) (broken : Option Rule) (leagues : List LeagueFacts) → Same (led_if there broken one leagues) (led_if there broken two leagues)
  led_alike false broken leagues = refl
  led_alike true (Some broken) leagues = refl
  led_alike true None leagues = accepted_alike (led_in one leagues) (led_in two leagues) refl (record {
    facts = a.facts;
    leagues = refl;
    cups = a.cups;
    entries = entries_again one.entries two.entries a.entries;
    own = a.own;
  })

  leagues_in : (facts : Facts) → Same (leagues_ruled one facts own order) (leagues_ruled two facts own order)
  leagues_in facts =
      let issued : is_issued one.entries ≡ is_issued two.entries = λ i e. issued_alike one.facts one.entries two.entries a.entries e i in
      let registered : is_registered one.entries own ≡ is_registered two.entries own = registered_alike one.facts one.entries two.entries a.entries own in
      subst (λ also. Same (leagues_ruled one facts own order) also)
      (λ i. led_if (leagues_there facts (issued i) (a.leagues i) order) (league_refusal facts (registered i) (a.leagues i) own order) two (a.leagues i))
      (led_alike (leagues_there facts (is_issued one.entries) one.leagues order) (league_refusal facts (is_registered one.entries own) one.leagues own order) one.leagues)

  leagues_by : (facts : Option Facts) → Same (in_season facts (λ f. leagues_ruled one f own order)) (in_season facts (λ f. leagues_ruled two f own order))
  leagues_by None = refl
  leagues_by (Some facts) = leagues_in facts

  leagues_alike : Same (in_season one.facts (λ f. leagues_ruled one f own order)) (in_season two.facts (λ f. leagues_ruled two f own order))
  leagues_alike = subst (λ facts. Same (in_season one.facts (λ f. leagues_ruled one f own order)) (in_season facts (λ f. leagues_ruled two f own order))) a.facts (leagues_by one.facts)

  -- cups
  abbrev drawn_in : Book → List Bracket → Bracket → Outcome
  drawn_in b cups bracket = record { made = cup_made cups; book = record b { cups = cups ++ bracket ∷ [] } }

  abbrev drawn_if : Bool → Option Rule → Book → List Bracket → Bracket → Result Outcome Answer
  drawn_if there broken b cups bracket = if there then unless_broken broken (drawn_in b cups bracket) else Err answer.Unknown

  drawn_alike : (there : Bool) (broken : Option Rule) (cups : List Bracket) (bracket : Bracket) → Same (drawn_if there broken one cups bracket) (drawn_if there broken two cups bracket)
  drawn_alike false broken cups bracket = refl
  drawn_alike true (Some broken) cups bracket = refl
  drawn_alike true None cups bracket = accepted_alike (drawn_in one cups bracket) (drawn_in two cups bracket) refl (record {
    facts = a.facts;
    leagues = a.leagues;
    cups = refl;
    entries = entries_again one.entries two.entries a.entries;
    own = a.own;
  })

  cup_in : (facts : Facts) (bracket : Bracket) → Same (cup_ruled one facts bracket) (cup_ruled two facts bracket)
  cup_in facts bracket =
      let issued : is_issued one.entries ≡ is_issued two.entries = λ i e. issued_alike one.facts one.entries two.entries a.entries e i in
      let registered : is_registered one.entries ≡ is_registered two.entries = λ i e. registered_alike one.facts one.entries two.entries a.entries e i in
      subst (λ also. Same (cup_ruled one facts bracket) also)
      (λ i. drawn_if (cup_there facts (issued i) bracket) (cup_broken facts (registered i) (length (a.cups i)) bracket) two (a.cups i) bracket)
      (drawn_alike (cup_there facts (is_issued one.entries) bracket) (cup_broken facts (is_registered one.entries) (length one.cups) bracket) one.cups bracket)

  cup_by : (facts : Facts) (drawn : Option Bracket) → Same (option_map_or (cup_ruled one facts) drawn (Err answer.Unknown)) (option_map_or (cup_ruled two facts) drawn (Err answer.Unknown))
  cup_by facts None = refl
  cup_by facts (Some bracket) = cup_in facts bracket

  cups_by : (facts : Option Facts) → Same (in_season facts (λ f. cups_ruled one f order)) (in_season facts (λ f. cups_ruled two f order))
  cups_by None = refl
  cups_by (Some facts) = cup_by facts (cup_drawn order)

  cups_alike : Same (in_season one.facts (λ f. cups_ruled one f order)) (in_season two.facts (λ f. cups_ruled two f order))
  cups_alike = subst (λ facts. Same (in_season one.facts (λ f. cups_ruled one f order)) (in_season facts (λ f. cups_ruled two f order))) a.facts (cups_by one.facts)

  in_part : (p : Part) → Same (ruled_in p operator one caller now order) (ruled_in p operator two caller now order)
  in_part part.Facts = facts_alike
  in_part part.Players = amends_alike
  in_part part.Entries = entries_alike
  in_part part.Keys = keys_ruled_alike
  in_part part.Deeds = deeds_alike
  in_part part.Leagues = leagues_alike
  in_part part.Cups = cups_alike

  pub ruled_alike : Same (ruled operator one caller now order) (ruled operator two caller now order)
  ruled_alike = in_part (part_of order)

pub commands_are_isolated : CommandsAreIsolated
commands_are_isolated operator caller now number order book other a use_same = ruled_alike operator caller now number order book other a use_same
