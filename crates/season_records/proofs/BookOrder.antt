-- Moments and verdicts keep a book in order.
use Rattle.std.proofs.Common.{◌≡◌, ◌<◌, ℕ, Bool, true, false, List, [], ◌∷◌, ◌++◌, Option, Some, None, AllPairs, length, refl, sym, ap, subst, ◌∙◌, inl, inr, if◌then◌else◌}
use Rattle.std.specs.Prelude.{Result, Ok, Err, is_some}
use Rattle.std.specs.Option.{option_map}
use Rattle.std.proofs.lemmas.Bool.{cases_eq}
use Rattle.std.proofs.lemmas.Option.{none-some, same_Some}
use Rattle.fpl_base.specs.declared.kinds.Caller.{Caller}
use Rattle.fpl_base.specs.declared.kinds.Position.{Position}
use Rattle.fpl_base.specs.declared.rule.Rule.{Rule}
use Rattle.fpl_base.specs.declared.rule.Rule.TheVariants as rule
use Rattle.rule_book.specs.declared.cup.Bracket.{Bracket}
use Rattle.rule_book.specs.ById.{at_id, placed_at}
use Rattle.rule_book.specs.Calendar.{deadlines_order}
use Rattle.rule_book.specs.Entries.{entry_in}
use Rattle.rule_book.specs.LeagueCalls.{with_member, with_order}
use Rattle.rule_book.specs.Leagues.{LeagueFacts}
use Rattle.rule_book.proofs.AtId.{one_other, one_same, placed_other, placed_same}
use Rattle.season_book.specs.Book.{Book, EntryFacts, Facts, Last, caller_number, last_number}
use Rattle.season_book.specs.Commands.{are_there, begun_by, changed_by, has_player, refusal_of}
use Rattle.season_book.specs.EntryCommands.{deed_refusal, history_after, names_players}
use Rattle.season_book.specs.Hosts.{keys_of}
use Rattle.season_book.specs.KeyCommands.{NewKey, entries_rekeyed, rekey_refusal}
use Rattle.season_book.specs.LeagueCommands.{cup_broken, cup_made, cup_there, is_issued, is_registered, league_made, league_refusal, leagues_after, leagues_there}
use Rattle.season_book.specs.PlayerCommands.{Amendment, facts_amended, have_had, position_refusal}
use Rattle.season_book.specs.Verdict.{Outcome, Verdict, accepted, amends_ruled, begun, cups_ruled, in_season, judged, key_refusal, keyed, keys_ruled, leagues_ruled, locked_at, number_refusal, ruled, ruled_by, ruled_for, ruled_of, settled, unless_broken, unless_misnumbered, unless_refused, with_entry, with_history}
use Rattle.season_book.specs.declared.answer.Answer.{Answer}
use Rattle.season_book.specs.declared.answer.Answer.TheVariants as answer
use Rattle.season_book.specs.declared.command.Command.{Command}
use Rattle.season_book.specs.declared.command.Command.TheVariants as command
use Rattle.season_book.specs.declared.made.Made.TheVariants as made
use Rattle.season_book.specs.declared.request.Request.TheVariants as request
use Rattle.season_records.specs.Records.{made_id}
use Rattle.season_records.specs.Told.{AreInOrder, EmptyIsInOrder, IsInOrder, MomentsKeepOrder, VerdictsKeepOrder, made_by}
use Rattle.season_records.proofs.Determined.{rise_of}
use Rattle.season_records.proofs.FactOrder.{amended_in_order, changes_in_order, season_in_order}
use Rattle.season_records.proofs.Finds.{changed_from, more_from, none_in}
use Rattle.season_records.proofs.Orders.{none_sorted, pairs_of, put_sorted, rise_put}

pub empty_is_in_order : EmptyIsInOrder
empty_is_in_order = record {
  facts = λ facts is. absurd (none-some facts is);
  members = λ l league at. absurd (none-some league (sym (none_in l) ∙ at));
  lasts = none_sorted Last;
  makes = λ c last at. absurd (none-some last at);
}

-- with other facts in order
with_facts : (book : Book) (facts : Facts) → IsInOrder book → AreInOrder facts → IsInOrder (record book { facts = Some facts })
with_facts book facts order up = record {
  facts = λ other is. subst AreInOrder (same_Some facts other is) up;
  members = order.members;
  lasts = order.lasts;
  makes = order.makes;
}

locked_in_order : (now : ℕ) (facts : Facts) → AreInOrder facts → AreInOrder (locked_at now facts)
locked_in_order now facts order = record {
  clubs = order.clubs;
  players = order.players;
  fixtures = order.fixtures;
  sheets = order.sheets;
  lines = order.lines;
  tell = order.tell;
  there = order.there;
}

pub moments_keep_order : MomentsKeepOrder
moments_keep_order book now order = record {
  facts = locked book.facts order.facts;
  members = order.members;
  lasts = order.lasts;
  makes = order.makes;
}
  where
    locked : (some : Option Facts) → ((facts : Facts) → some ≡ Some facts → AreInOrder facts) → (facts : Facts) → option_map (locked_at now) some ≡ Some facts → AreInOrder facts
    locked None up facts is = absurd (none-some facts is)
    locked (Some before) up facts is = subst AreInOrder (same_Some (locked_at now before) facts is) (locked_in_order now before (up before refl))

-- an accepted command leads to a book in order, and makes what such a one makes
abbrev StaysInOrder : Command → Result Outcome Answer → Type 0
StaysInOrder command (Err refused) = Unit {0}
StaysInOrder command (Ok outcome) = IsInOrder outcome.book × (outcome.made ≡ made_by command (made_id outcome.made))

-- with the caller's last command
accepted_in_order : (caller : Caller) (number : ℕ) (command : Command) (outcome : Outcome) → IsInOrder outcome.book → outcome.made ≡ made_by command (made_id outcome.made)
    → IsInOrder (accepted caller number command outcome)
accepted_in_order caller number command outcome order makes =
    let n : ℕ = caller_number caller in
    let last : Last = record { number = number; command = command; made = outcome.made } in
    record {
      facts = order.facts;
      members = order.members;
      lasts = put_sorted outcome.book.lasts n last order.lasts;
      makes = λ c other at. elim (cases_eq c n) [
        | inl here ↦
            subst (λ (l : Last). l.made ≡ made_by l.command (made_id l.made))
            (same_Some last other (sym (ap (at_id (placed_at outcome.book.lasts n ((n, last) ∷ []))) here ∙ placed_same outcome.book.lasts ((n, last) ∷ []) n ∙ one_same n last) ∙ at)) makes
        | inr apart ↦ order.makes c other (sym (placed_other outcome.book.lasts ((n, last) ∷ []) n c apart (one_other n c last apart)) ∙ at)
      ];
    }

module _ (book : Book) (order : IsInOrder book) where
  -- the facts
  unless_in_order : (command : Command) (facts : Facts) (broken : Option Rule) → made.Nothing ≡ made_by command 0 → AreInOrder facts → StaysInOrder command (ruled_by book (unless_refused broken facts))
  unless_in_order command facts None makes up = (with_facts book facts order up, makes)
  unless_in_order command facts (Some rule) makes up = tt

  changed_in_order : (now : ℕ) (command : Command) (facts : Facts) (begins_one there : Bool) → made.Nothing ≡ made_by command 0 → book.facts ≡ Some facts → are_there facts command ≡ there
      → StaysInOrder command (ruled_by book (if begins_one then Err (answer.Rule rule.SeasonThere) else if there then unless_refused (refusal_of facts now command) (changed_by facts command) else Err answer.Unknown))
  changed_in_order now command facts true there makes is has = tt
  changed_in_order now command facts false false makes is has = tt
  changed_in_order now command facts false true makes is has =
      unless_in_order command (changed_by facts command) (refusal_of facts now command) makes (changes_in_order facts command (order.facts facts is) has)

  abbrev InOrder : Option Facts → Type 0
  InOrder None = Unit {0}
  InOrder (Some facts) = AreInOrder facts

  begun_one : (command : Command) → InOrder (begun_by command)
  begun_one (command.Season profile deadlines split clubs) = season_in_order profile deadlines split clubs
  begun_one command = tt

  begun_in_order : (command : Command) (some : Option Facts) → made.Nothing ≡ made_by command 0 → InOrder some → StaysInOrder command (ruled_by book (begun some))
  begun_in_order command None makes up = tt
  begun_in_order command (Some facts) makes up = unless_in_order command facts (deadlines_order facts.calendar.deadlines) makes up

  judged_in_order : (now : ℕ) (command : Command) (some : Option Facts) → made.Nothing ≡ made_by command 0 → book.facts ≡ some → StaysInOrder command (ruled_by book (judged some now command))
  judged_in_order now command None makes is = begun_in_order command (begun_by command) makes (begun_one command)
  judged_in_order now command (Some facts) makes is = changed_in_order now command facts (is_some (begun_by command)) (are_there facts command) makes is refl

  facts_in_order : (now : ℕ) (command : Command) → made.Nothing ≡ made_by command 0 → StaysInOrder command (ruled_by book (judged book.facts now command))
  facts_in_order now command makes = judged_in_order now command book.facts makes refl

  -- other parts
  broken_in_order : (command : Command) (outcome : Outcome) (broken : Option Rule) → StaysInOrder command (Ok outcome) → StaysInOrder command (unless_broken broken outcome)
  broken_in_order command outcome None stays = stays
  broken_in_order command outcome (Some rule) stays = tt

  there_in_order : (command : Command) (outcome : Outcome) (there : Bool) (broken : Option Rule) → StaysInOrder command (Ok outcome)
      → StaysInOrder command (if there then unless_broken broken outcome else Err answer.Unknown)
  there_in_order command outcome true broken stays = broken_in_order command outcome broken stays
  there_in_order command outcome false broken stays = tt

  seasons_in_order : (command : Command) (ruled : Facts → Result Outcome Answer) → ((facts : Facts) → StaysInOrder command (ruled facts)) → (some : Option Facts) → StaysInOrder command (in_season some ruled)
  seasons_in_order command ruled each None = tt
  seasons_in_order command ruled each (Some facts) = each facts

  entries_in_order : (entries : List EntryFacts) → IsInOrder (record book { entries = entries })
  entries_in_order entries = record { facts = order.facts; members = order.members; lasts = order.lasts; makes = order.makes }

  leagues_in_order : (leagues : List LeagueFacts) → ((l : ℕ) (league : LeagueFacts) → entry_in leagues l ≡ Some league → AllPairs (λ m n. m < n) league.members) → IsInOrder (record book { leagues = leagues })
  leagues_in_order leagues up = record { facts = order.facts; members = up; lasts = order.lasts; makes = order.makes }

  cups_in_order : (cups : List Bracket) → IsInOrder (record book { cups = cups })
  cups_in_order cups = record { facts = order.facts; members = order.members; lasts = order.lasts; makes = order.makes }

  key_in_order : (operator key name : List ℕ) → StaysInOrder (command.Key key name) (in_season book.facts (λ facts. keyed operator book (command.Key key name)))
  key_in_order operator key name =
      seasons_in_order (command.Key key name) (λ facts. keyed operator book (command.Key key name)) (λ facts.
      broken_in_order (command.Key key name) (with_entry book key name) (key_refusal operator book.entries key) (entries_in_order (with_entry book key name).book.entries, refl)) book.facts

  rekey_in_order : (operator : List ℕ) (e : ℕ) (key name : List ℕ)
      → StaysInOrder (command.Rekey e key name) (in_season book.facts (λ facts. keys_ruled operator book (command.Rekey e key name)))
  rekey_in_order operator e key name =
      let given : NewKey = record { entry = e; key = key; name = name } in
      seasons_in_order (command.Rekey e key name) (λ facts. keys_ruled operator book (command.Rekey e key name)) (λ facts.
      there_in_order (command.Rekey e key name) (record { made = made.Nothing; book = record book { entries = entries_rekeyed book.entries given } })
      (is_issued book.entries e) (rekey_refusal operator (keys_of book.entries) given.entry given.key) (entries_in_order (entries_rekeyed book.entries given), refl)) book.facts

  amend_in_order : (p : ℕ) (name : List ℕ) (position : Position)
      → StaysInOrder (command.AmendPlayer p name position) (in_season book.facts (λ facts. amends_ruled book facts (command.AmendPlayer p name position)))
  amend_in_order p name position = of_facts book.facts refl
    where
      given : Amendment
      given = record { player = p; name = name; position = position }

      of_facts : (some : Option Facts) → book.facts ≡ some
          → StaysInOrder (command.AmendPlayer p name position) (in_season some (λ facts. amends_ruled book facts (command.AmendPlayer p name position)))
      of_facts None is = tt
      of_facts (Some facts) is =
          there_in_order (command.AmendPlayer p name position) (record { made = made.Nothing; book = record book { facts = Some (facts_amended facts given) } })
          (has_player facts p) (position_refusal facts (have_had book.entries p) given)
          (with_facts book (facts_amended facts given) order (amended_in_order facts p name position (order.facts facts is)), refl)

  deed_in_order : (caller : Caller) (command : Command) → made.Nothing ≡ made_by command 0 → StaysInOrder command (ruled_for book caller command)
  deed_in_order caller command makes =
      let e : ℕ = caller_number caller in
      seasons_in_order command (λ facts. ruled_of book facts e command (entry_in book.entries e)) (λ facts. of_entry facts e (entry_in book.entries e)) book.facts
    where
      of_entry : (facts : Facts) (e : ℕ) (entry : Option EntryFacts) → StaysInOrder command (ruled_of book facts e command entry)
      of_entry facts e None = tt
      of_entry facts e (Some entry) =
          let behind : Book = with_history book e (history_after facts entry.history command) in
          there_in_order command (record { made = made.Nothing; book = behind }) (names_players facts command) (deed_refusal facts entry.history command)
          (entries_in_order behind.entries, makes)

  league_in_order : (e : ℕ) (command : Command) → league_made book.leagues command ≡ made_by command (made_id (league_made book.leagues command))
      → ((l : ℕ) (league : LeagueFacts) → entry_in (leagues_after book.leagues e command) l ≡ Some league → AllPairs (λ m n. m < n) league.members)
      → StaysInOrder command (in_season book.facts (λ facts. leagues_ruled book facts e command))
  league_in_order e command makes up =
      seasons_in_order command (λ facts. leagues_ruled book facts e command) (λ facts.
      there_in_order command (record { made = league_made book.leagues command; book = record book { leagues = leagues_after book.leagues e command } })
      (leagues_there facts (is_issued book.entries) book.leagues command) (league_refusal facts (is_registered book.entries e) book.leagues e command)
      (leagues_in_order (leagues_after book.leagues e command) up, makes)) book.facts

  cup_in_order : (start : ℕ) (slots coins : List ℕ) → StaysInOrder (command.Cup start slots coins) (in_season book.facts (λ facts. cups_ruled book facts (command.Cup start slots coins)))
  cup_in_order start slots coins =
      let b : Bracket = record { start = start; slots = slots; coins = coins } in
      seasons_in_order (command.Cup start slots coins) (λ facts. cups_ruled book facts (command.Cup start slots coins)) (λ facts.
      there_in_order (command.Cup start slots coins) (record { made = cup_made book.cups; book = record book { cups = book.cups ++ b ∷ [] } })
      (cup_there facts (is_issued book.entries) b) (cup_broken facts (is_registered book.entries) (length book.cups) b)
      (cups_in_order (book.cups ++ b ∷ []), refl)) book.facts

  -- each
  ruled_in_order : (operator : List ℕ) (caller : Caller) (now : ℕ) (command : Command) → StaysInOrder command (ruled operator book caller now command)
  ruled_in_order operator caller now (command.Key key name) = key_in_order operator key name
  ruled_in_order operator caller now (command.Rekey e key name) = rekey_in_order operator e key name
  ruled_in_order operator caller now (command.AmendPlayer p name position) = amend_in_order p name position
  ruled_in_order operator caller now (command.Squad players captain vice) = deed_in_order caller (command.Squad players captain vice) refl
  ruled_in_order operator caller now (command.Transfers swaps) = deed_in_order caller (command.Transfers swaps) refl
  ruled_in_order operator caller now (command.Lineup players captain vice) = deed_in_order caller (command.Lineup players captain vice) refl
  ruled_in_order operator caller now (command.Chip chip) = deed_in_order caller (command.Chip chip) refl
  ruled_in_order operator caller now command.CancelChip = deed_in_order caller command.CancelChip refl
  ruled_in_order operator caller now (command.League kind name code start) =
      league_in_order (caller_number caller) (command.League kind name code start) refl (λ l league at. elim (more_from book.leagues _ l league at) [
        | inl old ↦ order.members l league old
        | inr is ↦ subst (λ (league : LeagueFacts). AllPairs (λ m n. m < n) league.members) (sym is) (pairs_of (λ m. m) (caller_number caller ∷ []) (tt, tt))
      ])
  ruled_in_order operator caller now (command.Join l code) =
      let e : ℕ = caller_number caller in
      league_in_order e (command.Join l code) refl (λ q league at.
      let from = changed_from (with_member e) book.leagues l q league at in
      let old = order.members q from.0 from.1 in
      elim from.2 [
        | inl is ↦ subst (λ (league : LeagueFacts). AllPairs (λ m n. m < n) league.members) (sym is) old
        | inr is ↦ subst (λ (league : LeagueFacts). AllPairs (λ m n. m < n) league.members) (sym is) (pairs_of (λ m. m) (with_member e from.0).members (rise_put (λ m. m) e e from.0.members refl (rise_of (λ m. m) from.0.members old)))
      ])
  ruled_in_order operator caller now (command.Draw l places) =
      league_in_order (caller_number caller) (command.Draw l places) refl (λ q league at.
      let from = changed_from (with_order places) book.leagues l q league at in
      let old = order.members q from.0 from.1 in
      elim from.2 [
        | inl is ↦ subst (λ (league : LeagueFacts). AllPairs (λ m n. m < n) league.members) (sym is) old
        | inr is ↦ subst (λ (league : LeagueFacts). AllPairs (λ m n. m < n) league.members) (sym is) old
      ])
  ruled_in_order operator caller now (command.Cup start slots coins) = cup_in_order start slots coins
  ruled_in_order operator caller now command = facts_in_order now command refl

  settled_in_order : (caller : Caller) (number : ℕ) (command : Command) (due : Result Outcome Answer) → StaysInOrder command due → IsInOrder (settled book caller number command due).book
  settled_in_order caller number command (Err refused) stays = order
  settled_in_order caller number command (Ok outcome) stays = accepted_in_order caller number command outcome stays.0 stays.1

  numbered_in_order : (broken : Option Rule) (verdict : Verdict) → IsInOrder verdict.book → IsInOrder (unless_misnumbered broken book verdict).book
  numbered_in_order (Some broken) verdict stays = order
  numbered_in_order None verdict stays = stays

pub verdicts_keep_order : VerdictsKeepOrder
verdicts_keep_order operator book caller now (request.View view) verdict order is = subst IsInOrder (sym (ap (λ (v : Verdict). v.book) is)) order
verdicts_keep_order operator book caller now (request.Command number command) verdict order (inl (made, again, is)) = subst IsInOrder (sym (ap (λ (v : Verdict). v.book) is)) order
verdicts_keep_order operator book caller now (request.Command number command) verdict order (inr (fresh, is)) =
    let due : Result Outcome Answer = ruled operator book caller now command in
    subst IsInOrder (sym (ap (λ (v : Verdict). v.book) is))
    (numbered_in_order book order (number_refusal (last_number book caller) number) (settled book caller number command due)
    (settled_in_order book order caller number command due (ruled_in_order book order operator caller now command)))
