-- Moments and verdicts lead from lawful books to lawful ones, and so do runs.
use Rattle.std.proofs.Common.{◌≡◌, ◌⊎◌, ◌-◌, ℕ, zero, suc, slice_get, Bool, true, false, List, [], ◌∷◌, ◌++◌, Option, Some, None, length, refl, sym, ap, subst, ◌∙◌, inl, inr, if◌then◌else◌}
use Rattle.std.specs.Prelude.{Result, Ok, Err, is_some}
use Rattle.std.specs.Option.{option_map, option_map_or}
use Rattle.std.proofs.lemmas.Bool.{cases_eq}
use Rattle.std.proofs.lemmas.Option.{none-some, same_Some}
use Rattle.fpl_base.specs.declared.kinds.Caller.{Caller}
use Rattle.fpl_base.specs.declared.rule.Rule.{Rule}
use Rattle.fpl_base.specs.declared.rule.Rule.TheVariants as rule
use Rattle.rule_book.specs.declared.cup.Bracket.{Bracket}
use Rattle.rule_book.specs.Batch.{is_same_position}
use Rattle.rule_book.specs.Calendar.{deadlines_order}
use Rattle.rule_book.specs.Entries.{entry_in}
use Rattle.rule_book.specs.History.{Event}
use Rattle.rule_book.specs.HistoryRules.{IsHistory, NoneAfter}
use Rattle.rule_book.specs.PlayerFigures.{position_in}
use Rattle.rule_book.specs.Uses.{has_had, has_lines}
use Rattle.rule_book.proofs.AtId.{one_same, placed_same}
use Rattle.rule_book.proofs.HadFacts.{neither}
use Rattle.season_book.specs.Book.{Book, EntryFacts, Facts, Last, caller_number, histories_with, last_number}
use Rattle.season_book.specs.Commands.{IsCommand, are_there, begun_by, changed_by, has_player, part_of, refusal_of}
use Rattle.season_book.specs.Doing.{IsGranted}
use Rattle.season_book.specs.EntryCommands.{deed_refusal, history_after, names_players}
use Rattle.season_book.specs.EntryViews.{gameweek_seen}
use Rattle.season_book.specs.Hosts.{IsRequest, keys_of}
use Rattle.season_book.specs.KeyCommands.{NewKey, entries_rekeyed, key_given, rekey_refusal, with_key}
use Rattle.season_book.specs.LeagueCommands.{cup_broken, cup_drawn, cup_made, cup_there, is_issued, is_registered, league_made, league_refusal, leagues_after, leagues_there}
use Rattle.season_book.specs.PlayerCommands.{Amendment, amendment, facts_amended, have_had, position_refusal}
use Rattle.season_book.specs.Verdict.{Failures, IsVerdictIn, MayAnswer, MayBeLeft, Outcome, Verdict, amend_ruled, amends_ruled, begun, cup_ruled, in_season, judged, key_refusal, key_ruled, keyed, keys_ruled, leagues_ruled, locked_at, number_refusal, pass, ruled, ruled_by, ruled_in, ruled_of, settled, unless_broken, unless_misnumbered, unless_refused, with_entry, with_history}
use Rattle.season_book.specs.declared.answer.Answer.{Answer}
use Rattle.season_book.specs.declared.answer.Answer.TheVariants as answer
use Rattle.season_book.specs.declared.command.Command.{Command}
use Rattle.season_book.specs.declared.command.Command.TheVariants as command
use Rattle.season_book.specs.declared.made.Made.TheVariants as made
use Rattle.season_book.specs.declared.part.Part.{Part}
use Rattle.season_book.specs.declared.part.Part.TheVariants as part
use Rattle.season_book.specs.declared.request.Request.{Request}
use Rattle.season_book.specs.declared.request.Request.TheVariants as request
use Rattle.season_records.specs.Ranges.{HasRanges}
use Rattle.season_records.specs.declared.slot.Slot.TheVariants as slot
use Rattle.season_records.specs.Records.{last_item}
use Rattle.season_records.specs.Keeping.{AreEarly}
use Rattle.season_records.specs.Told.{IsInOrder, TellsItems}
use Rattle.season_records.specs.Touched.{gameweek_of}
use Rattle.season_records.proofs.BookOrder.{moments_keep_order}
use Rattle.season_records.proofs.Deeds.{entry_kept, one_here}
use Rattle.season_records.proofs.Early.{moments_are_early}
use Rattle.season_records.proofs.Finds.{changed_from, more_from, none_in}
use Rattle.season_entries.proofs.Amended.{no_use, one_position}
use Rattle.season_entries.proofs.Books.{slice_there}
use Rattle.season_opening.specs.Opening.{IsKeepable}
use Rattle.lawful_books.specs.Histories.{IsLawfulHistory}
use Rattle.lawful_books.specs.EntriesKeeping.{IsTyped}
use Rattle.lawful_books.proofs.Amended.{amendments_keep_histories}
use Rattle.lawful_books.proofs.Deeds.{deeds_keep_histories}
use Rattle.lawful_books.proofs.Stay.{changes_keep_histories, empty_is_lawful, moments_keep_histories}
use Rattle.lawful_books.specs.Facts as facts_of
use Rattle.lawful_books.proofs.Keeping.{amendments_are_lawful, granted_are_lawful}
use Rattle.lawful_books.proofs.SeasonKept.{moments_are_lawful, new_seasons_are_lawful}
use Rattle.lawful_books.specs.LeaguesKeeping.{IsCaller}
use Rattle.lawful_books.proofs.BookKept.{empty_is_lawful as leagues_empty, moments_keep_laws, verdicts_keep_laws as leagues_keep_laws}
use Rattle.lawful_books.proofs.Formed.{teams_have_shape}
use Rattle.lawful_books.specs.Books.{EmptyIsLawful, IsLawful, RunsKeepLaws, VerdictsKeepLaws}
use Rattle.lawful_books.proofs.Stood.{stood}

-- entries whose histories are lawful
abbrev HistoriesAre : Facts → List EntryFacts → Type 0
HistoriesAre facts entries = (e : ℕ) (entry : EntryFacts) → entry_in entries e ≡ Some entry → IsLawfulHistory facts entry.history

-- a book whose facts and histories are
record AreKept (book : Book) : Type 0 where
  facts : (facts : Facts) → book.facts ≡ Some facts → facts_of.AreLawful facts
  histories : (facts : Facts) → book.facts ≡ Some facts → HistoriesAre facts book.entries

none_entered : (facts : Facts) (entries : List EntryFacts) → entries ≡ [] → HistoriesAre facts entries
none_entered facts entries none e entry at = absurd (none-some entry (sym (ap (λ xs. entry_in xs e) none ∙ none_in e) ∙ at))

pub empty_book_is_lawful : EmptyIsLawful
empty_book_is_lawful = record {
  facts = λ facts is. absurd (none-some facts is);
  leagues = leagues_empty;
  histories = λ facts is. absurd (none-some facts is);
}

-- moments
locked_kept : (now : ℕ) (some : Option Facts) (facts : Facts) → option_map (locked_at now) some ≡ Some facts
    → (before : Facts) × (some ≡ Some before) × (locked_at now before ≡ facts)
locked_kept now None facts is = absurd (none-some facts is)
locked_kept now (Some before) facts is = (before, refl, same_Some (locked_at now before) facts is)

pub moments_keep_lawful : (book : Book) (now : ℕ) → IsLawful book → IsLawful (pass book now)
moments_keep_lawful book now lawful = record {
  facts = λ facts is.
      let from = locked_kept now book.facts facts is in
      subst facts_of.AreLawful from.2 (moments_are_lawful from.0 now (lawful.facts from.0 from.1));
  leagues = moments_keep_laws book now lawful.leagues;
  histories = λ facts is e entry at.
      let from = locked_kept now book.facts facts is in
      subst (λ facts. IsLawfulHistory facts entry.history) from.2
      (moments_keep_histories from.0 now entry.history (lawful.histories from.0 from.1 e entry at));
}

-- what the types of its members say of a manager's command
typed : (command : Command) → IsCommand command → HasRanges command → IsTyped command
typed (command.Lineup players captain vice) is ranges = ranges.0
typed (command.Chip chip) is ranges = is
typed command is ranges = tt

-- What a command leads to.

abbrev StaysKept : Result Outcome Answer → Type 0
StaysKept (Err refused) = Unit {0}
StaysKept (Ok outcome) = AreKept outcome.book

-- a lawful book in order, in which nothing was done too early, and what was done are histories
module _ (book : Book) (order : IsInOrder book) (early : AreEarly book) (lawful : IsLawful book)
    (history : (facts : Facts) (e : ℕ) (entry : EntryFacts) → book.facts ≡ Some facts → entry_in book.entries e ≡ Some entry → IsHistory entry.history) where
  with_facts : (facts : Facts) → facts_of.AreLawful facts → HistoriesAre facts book.entries → AreKept (record book { facts = Some facts })
  with_facts facts are each = record {
    facts = λ other is. subst facts_of.AreLawful (same_Some facts other is) are;
    histories = λ other is. subst (λ facts. HistoriesAre facts book.entries) (same_Some facts other is) each;
  }

  with_entries : (entries : List EntryFacts) → ((facts : Facts) → book.facts ≡ Some facts → HistoriesAre facts entries) → AreKept (record book { entries = entries })
  with_entries entries each = record { facts = lawful.facts; histories = each }

  as_before : AreKept book
  as_before = record { facts = lawful.facts; histories = lawful.histories }

  -- the facts
  unless_kept : (facts : Facts) (broken : Option Rule) → (broken ≡ None → AreKept (record book { facts = Some facts })) → StaysKept (ruled_by book (unless_refused broken facts))
  unless_kept facts None kept = kept refl
  unless_kept facts (Some rule) kept = tt

  changed_kept : (now : ℕ) (command : Command) (facts : Facts) (begins : Option Facts) (there : Bool) → IsCommand command → HasRanges command
      → book.facts ≡ Some facts → begun_by command ≡ begins → are_there facts command ≡ there
      → StaysKept (ruled_by book (if is_some begins then Err (answer.Rule rule.SeasonThere) else if there then unless_refused (refusal_of facts now command) (changed_by facts command) else Err answer.Unknown))
  changed_kept now command facts (Some new) there can ranges is begins has = tt
  changed_kept now command facts None false can ranges is begins has = tt
  changed_kept now command facts None true can ranges is begins has =
      unless_kept (changed_by facts command) (refusal_of facts now command) (λ unbroken.
      let granted : IsGranted facts now command = record { begins_none = begins; there = has; unbroken = unbroken } in
      with_facts (changed_by facts command) (granted_are_lawful facts now command (order.facts facts is) (lawful.facts facts is) can ranges granted)
      (λ e entry at. changes_keep_histories facts now command entry.history granted (lawful.histories facts is e entry at)))

  begun_kept : (command : Command) (some : Option Facts) → IsCommand command → book.facts ≡ None → begun_by command ≡ some → StaysKept (ruled_by book (begun some))
  begun_kept command None can is begins = tt
  begun_kept command (Some facts) can is begins =
      unless_kept facts (deadlines_order facts.calendar.deadlines) (λ unbroken.
      with_facts facts (new_seasons_are_lawful command facts can begins unbroken) (none_entered facts book.entries (lawful.leagues.blank is).entries))

  judged_kept : (now : ℕ) (command : Command) (some : Option Facts) → IsCommand command → HasRanges command → book.facts ≡ some → StaysKept (ruled_by book (judged some now command))
  judged_kept now command None can ranges is = begun_kept command (begun_by command) can is refl
  judged_kept now command (Some facts) can ranges is = changed_kept now command facts (begun_by command) (are_there facts command) can ranges is refl refl

  -- other parts, in a season
  broken_kept : (outcome : Outcome) (broken : Option Rule) → (broken ≡ None → AreKept outcome.book) → StaysKept (unless_broken broken outcome)
  broken_kept outcome None kept = kept refl
  broken_kept outcome (Some rule) kept = tt

  there_kept : (outcome : Outcome) (there : Bool) (broken : Option Rule) → (there ≡ true → broken ≡ None → AreKept outcome.book)
      → StaysKept (if there then unless_broken broken outcome else Err answer.Unknown)
  there_kept outcome true broken kept = broken_kept outcome broken (kept refl)
  there_kept outcome false broken kept = tt

  in_season_kept : (ruled : Facts → Result Outcome Answer) → ((facts : Facts) → book.facts ≡ Some facts → StaysKept (ruled facts)) → (some : Option Facts) → book.facts ≡ some
      → StaysKept (in_season some ruled)
  in_season_kept ruled each None is = tt
  in_season_kept ruled each (Some facts) is = each facts is

  leagues_kept : (e : ℕ) (command : Command) (facts : Facts) → StaysKept (leagues_ruled book facts e command)
  leagues_kept e command facts =
      there_kept (record { made = league_made book.leagues command; book = record book { leagues = leagues_after book.leagues e command } })
      (leagues_there facts (is_issued book.entries) book.leagues command)
      (league_refusal facts (is_registered book.entries e) book.leagues e command) (λ there unbroken. record { facts = lawful.facts; histories = lawful.histories })

  cup_kept : (facts : Facts) (drawn : Option Bracket) → StaysKept (option_map_or (cup_ruled book facts) drawn (Err answer.Unknown))
  cup_kept facts None = tt
  cup_kept facts (Some b) =
      there_kept (record { made = cup_made book.cups; book = record book { cups = book.cups ++ b ∷ [] } })
      (cup_there facts (is_issued book.entries) b) (cup_broken facts (is_registered book.entries) (length book.cups) b)
      (λ there unbroken. record { facts = lawful.facts; histories = lawful.histories })

  -- a new entry
  keyed_kept : (operator : List ℕ) (command : Command) → StaysKept (keyed operator book command)
  keyed_kept operator (command.Key key name) =
      broken_kept (with_entry book key name) (key_refusal operator book.entries key) (λ unbroken.
      with_entries (with_entry book key name).book.entries (λ facts is e entry at. elim (more_from book.entries (record { key = key; name = name; history = [] }) e entry at) [
        | inl old ↦ lawful.histories facts is e entry old
        | inr new ↦ subst (λ (entry : EntryFacts). IsLawfulHistory facts entry.history) (sym new) (empty_is_lawful facts)
      ]))
  keyed_kept operator command = tt

  -- another key of an entry
  rekeyed_kept : (operator : List ℕ) (given : Option NewKey) → StaysKept (option_map_or (key_ruled operator book) given (Err answer.Unknown))
  rekeyed_kept operator None = tt
  rekeyed_kept operator (Some given) =
      there_kept (record { made = made.Nothing; book = record book { entries = entries_rekeyed book.entries given } })
      (is_issued book.entries given.entry) (rekey_refusal operator (keys_of book.entries) given.entry given.key) (λ there unbroken.
      with_entries (entries_rekeyed book.entries given) (λ facts is e entry at.
      let from = changed_from (with_key given) book.entries given.entry e entry at in
      let own = lawful.histories facts is e from.0 from.1 in
      elim from.2 [
        | inl old ↦ subst (λ (entry : EntryFacts). IsLawfulHistory facts entry.history) (sym old) own
        | inr new ↦ subst (λ (entry : EntryFacts). IsLawfulHistory facts entry.history) (sym new) own
      ]))

  -- another name and another position of a player
  amended_kept : (facts : Facts) (given : Option Amendment) → book.facts ≡ Some facts → StaysKept (option_map_or (amend_ruled book facts) given (Err answer.Unknown))
  amended_kept facts None is = tt
  amended_kept facts (Some given) is =
      there_kept (record { made = made.Nothing; book = record book { facts = Some (facts_amended facts given) } })
      (has_player facts given.player) (position_refusal facts (have_had book.entries given.player) given) (λ there unbroken.
      with_facts (facts_amended facts given) (amendments_are_lawful facts given (lawful.facts facts is))
      (λ e entry at. amendments_keep_histories facts given entry.history (history facts e entry is at) (apart e entry at unbroken) (lawful.histories facts is e entry at)))
    where
      none_had : (entries : List EntryFacts) (i : ℕ) (entry : EntryFacts) → have_had entries given.player ≡ false → slice_get entries i ≡ Some entry → has_had entry.history given.player ≡ false
      none_had [] i entry none at = absurd (none-some entry at)
      none_had (x ∷ entries) zero entry none at =
          subst (λ (x : EntryFacts). has_had x.history given.player ≡ false) (same_Some x entry at) (neither (has_had x.history given.player) (have_had entries given.player) none).0
      none_had (x ∷ entries) (suc i) entry none at = none_had entries i entry (neither (has_had x.history given.player) (have_had entries given.player) none).1 at

      apart : (e : ℕ) (entry : EntryFacts) → entry_in book.entries e ≡ Some entry → position_refusal facts (have_had book.entries given.player) given ≡ None
          → (position_in facts.players given.player ≡ given.position) ⊎ (has_had entry.history given.player ≡ false)
      apart e entry at unbroken = by_position (is_same_position (position_in facts.players given.player) given.position) refl
        where
          by_position : (b : Bool) → is_same_position (position_in facts.players given.player) given.position ≡ b
              → (position_in facts.players given.player ≡ given.position) ⊎ (has_had entry.history given.player ≡ false)
          by_position true same = inl (one_position (position_in facts.players given.player) given.position same)
          by_position false other =
              let unused = no_use facts given.player given.position (have_had book.entries given.player) other unbroken in
              inr (none_had book.entries (e - 1) entry (neither (have_had book.entries given.player) (has_lines facts.matches given.player) unused).0 (slice_there book.entries e entry at))

  -- what a manager does
  history_kept : (facts : Facts) (e : ℕ) (entry : EntryFacts) (after : List Event) → book.facts ≡ Some facts → entry_in book.entries e ≡ Some entry
      → IsLawfulHistory facts after → AreKept (with_history book e after)
  history_kept facts e entry after is at own =
      with_entries (histories_with book.entries e after) (λ other is_other q found found_at. subst (λ facts. IsLawfulHistory facts found.history) (same_Some facts other (sym is ∙ is_other)) (elim (cases_eq q e) [
        | inl here ↦
            subst (λ (entry : EntryFacts). IsLawfulHistory facts entry.history)
            (same_Some (record entry { history = after }) found (sym (one_here book.entries e after entry at) ∙ ap (entry_in (histories_with book.entries e after)) (sym here) ∙ found_at)) own
        | inr apart ↦ lawful.histories facts is q found (entry_kept (λ o. o) book.entries e q after entry at (λ same. absurd (apart same)) ∙ found_at)
      ]))

  entry_deeds_kept : (e : ℕ) (command : Command) (facts : Facts) (some : Option EntryFacts) → IsTyped command → book.facts ≡ Some facts → entry_in book.entries e ≡ some
      → StaysKept (ruled_of book facts e command some)
  entry_deeds_kept e command facts None types is at = tt
  entry_deeds_kept e command facts (Some entry) types is at =
      there_kept (record { made = made.Nothing; book = with_history book e (history_after facts entry.history command) })
      (names_players facts command) (deed_refusal facts entry.history command) (λ named unbroken.
      history_kept facts e entry (history_after facts entry.history command) is at
      (deeds_keep_histories (λ facts h g history lawful begun. (teams_have_shape facts h g history lawful begun).shape) facts entry.history command
      (λ p player found. ((lawful.facts facts is).players p player found).price)
      seen (history facts e entry is at) types named unbroken (lawful.histories facts is e entry at)))
    where
      seen : NoneAfter (gameweek_seen facts.calendar) entry.history
      seen =
          subst (λ g. NoneAfter g entry.history) (ap (λ some. option_map_or (λ (facts : Facts). gameweek_seen facts.calendar) some 0) is)
          (subst (NoneAfter (gameweek_of book)) (ap (λ o. option_map_or (λ (entry : EntryFacts). entry.history) o []) at) (early e))

  -- each
  ruled_kept : (operator : List ℕ) (caller : Caller) (now : ℕ) (command : Command) (p : Part) → IsCommand command → HasRanges command
      → StaysKept (ruled_in p operator book caller now command)
  ruled_kept operator caller now command part.Facts can ranges = judged_kept now command book.facts can ranges refl
  ruled_kept operator caller now command part.Players can ranges =
      in_season_kept (λ facts. amends_ruled book facts command) (λ facts is. amended_kept facts (amendment command) is) book.facts refl
  ruled_kept operator caller now command part.Entries can ranges =
      in_season_kept (λ facts. keyed operator book command) (λ facts is. keyed_kept operator command) book.facts refl
  ruled_kept operator caller now command part.Keys can ranges =
      in_season_kept (λ facts. keys_ruled operator book command) (λ facts is. rekeyed_kept operator (key_given command)) book.facts refl
  ruled_kept operator caller now command part.Deeds can ranges =
      let e : ℕ = caller_number caller in
      in_season_kept (λ facts. ruled_of book facts e command (entry_in book.entries e)) (λ facts is. entry_deeds_kept e command facts (entry_in book.entries e) (typed command can ranges) is refl) book.facts refl
  ruled_kept operator caller now command part.Leagues can ranges =
      in_season_kept (λ facts. leagues_ruled book facts (caller_number caller) command) (λ facts is. leagues_kept (caller_number caller) command facts) book.facts refl
  ruled_kept operator caller now command part.Cups can ranges =
      in_season_kept (λ facts. option_map_or (cup_ruled book facts) (cup_drawn command) (Err answer.Unknown)) (λ facts is. cup_kept facts (cup_drawn command)) book.facts refl

  -- the last command of a book that tells items has the ranges of its types
  settled_kept : (caller : Caller) (number : ℕ) (command : Command) (due : Result Outcome Answer) → (HasRanges command → StaysKept due)
      → TellsItems (settled book caller number command due).book → AreKept (settled book caller number command due).book
  settled_kept caller number command (Err refused) stays items = as_before
  settled_kept caller number command (Ok outcome) stays items =
      let n : ℕ = caller_number caller in
      let last : Last = record { number = number; command = command; made = outcome.made } in
      let kept : AreKept outcome.book = stays (items (slot.Last n) (last_item n last)
      (ap (option_map (last_item n)) (placed_same outcome.book.lasts ((n, last) ∷ []) n ∙ one_same n last))).0.3 in
      record { facts = kept.facts; histories = kept.histories }

  numbered_kept : (broken : Option Rule) (verdict : Verdict) → (TellsItems verdict.book → AreKept verdict.book)
      → TellsItems (unless_misnumbered broken book verdict).book → AreKept (unless_misnumbered broken book verdict).book
  numbered_kept (Some broken) verdict stays items = as_before
  numbered_kept None verdict stays items = stays items

  verdict_kept : (operator : List ℕ) (caller : Caller) (now : ℕ) (asked : Request) (verdict : Verdict) → IsRequest asked → TellsItems verdict.book
      → IsVerdictIn operator book caller now asked verdict → AreKept verdict.book
  verdict_kept operator caller now (request.View view) verdict can items is = subst AreKept (sym (ap (λ (v : Verdict). v.book) is)) as_before
  verdict_kept operator caller now (request.Command number command) verdict can items (inl (made, again, is)) =
      subst AreKept (sym (ap (λ (v : Verdict). v.book) is)) as_before
  verdict_kept operator caller now (request.Command number command) verdict can items (inr (fresh, is)) =
      let due : Result Outcome Answer = ruled operator book caller now command in
      subst AreKept (sym (ap (λ (v : Verdict). v.book) is))
      (numbered_kept (number_refusal (last_number book caller) number) (settled book caller number command due)
      (settled_kept caller number command due (ruled_kept operator caller now command (part_of command) can.2))
      (subst TellsItems (ap (λ (v : Verdict). v.book) is) items))

pub verdicts_keep_lawful : VerdictsKeepLaws
verdicts_keep_lawful operator book caller now asked verdict keepable after can called is lawful =
    let passed : Book = pass book now in
    let order : IsInOrder passed = moments_keep_order book now keepable.order in
    let early : AreEarly passed = moments_are_early book now keepable.early in
    let lawful_now : IsLawful passed = moments_keep_lawful book now lawful in
    let kept : AreKept verdict.book = verdict_kept passed order early lawful_now history operator caller now asked verdict can after.items is in
    record {
      facts = kept.facts;
      leagues = leagues_keep_laws operator passed caller now asked verdict order lawful_now.leagues early can called is;
      histories = kept.histories;
    }
  where
    history : (facts : Facts) (e : ℕ) (entry : EntryFacts) → (pass book now).facts ≡ Some facts → entry_in book.entries e ≡ Some entry → IsHistory entry.history
    history facts e entry season at =
        let from = locked_kept now book.facts facts season in
        (stood book from.0 e entry keepable (keepable.order.facts from.0 from.1).players from.1 at).history

-- Runs.

module _ (operator : List ℕ) (book after : Book) (caller : Caller) (now : ℕ) (asked : Request) (lawful : IsLawful book)
    (keepable : IsKeepable book) (kept : IsKeepable after) (can : IsRequest asked) (called : IsCaller book caller) where
  left_lawful : MayBeLeft operator book caller now asked after → IsLawful after
  left_lawful (inl is) = subst IsLawful (sym is) lawful
  left_lawful (inr (inl is)) = subst IsLawful (sym is) (moments_keep_lawful book now lawful)
  left_lawful (inr (inr (refused, is))) =
      verdicts_keep_lawful operator book caller now asked (record { answer = refused; book = after }) keepable kept can called is lawful

  answered_lawful : (failures : Failures) (reply : Answer) → MayAnswer operator failures book caller now asked reply after → IsLawful after
  answered_lawful failures reply (inl is) =
      verdicts_keep_lawful operator book caller now asked (record { answer = reply; book = after }) keepable kept can called is lawful
  answered_lawful failures reply (inr (why, may)) = left_lawful may

pub runs_keep_lawful : RunsKeepLaws
runs_keep_lawful operator book after [] [] keepable lawful run = subst IsLawful (sym run) lawful
runs_keep_lawful operator book after [] (reply ∷ replies) keepable lawful run = absurd run
runs_keep_lawful operator book after (one ∷ more) [] keepable lawful run = absurd run
runs_keep_lawful operator book after (one ∷ more) (reply ∷ replies) keepable lawful (mid, kept, can, called, may, run) =
    runs_keep_lawful operator mid after more replies kept
    (answered_lawful operator book mid one.caller one.now one.request lawful keepable kept can called one.failures reply may) run
