-- The records of a lawful book are lawful: each is spelled as an item in range, and breaks no rule.
use Rattle.std.proofs.Common.{◌≡◌, ◌<◌, ℕ, suc, Bool, true, false, cond, not, List, [], ◌∷◌, Option, Some, None, find, length, map, get_or, arith, refl, sym, ap, subst, ◌∙◌, if◌then◌else◌}
use Rattle.std.specs.Option.{option_and_then, option_map, option_map_or, option_or}
use Rattle.std.proofs.lemmas.Bool.{and_from, or_from}
use Rattle.std.proofs.lemmas.Option.{cond_some, none-some, same_Some}
use Rattle.fpl_base.specs.declared.records.RecordKey.{RecordKey as Key}
use Rattle.fpl_base.specs.Keeping.{KeysRise, Map, map_of}
use Rattle.rule_book.specs.declared.team.Team.{Team}
use Rattle.rule_book.specs.declared.transfers.Sale.{Sale}
use Rattle.rule_book.specs.ById.{at_id}
use Rattle.rule_book.specs.Entries.{entry_in}
use Rattle.rule_book.specs.EntryRecords.{sold_in}
use Rattle.rule_book.specs.History.{is_touched}
use Rattle.rule_book.specs.TeamOfHistory.{team_of}
use Rattle.rule_book.specs.UpTo.{start_of}
use Rattle.season_book.specs.Book.{Book, EntryFacts, Facts, Last}
use Rattle.season_records.specs.ItemReading.{item_of}
use Rattle.season_records.specs.Items.{body_of}
use Rattle.season_records.specs.Keys.{key_of}
use Rattle.season_records.specs.declared.item.Item.{Item}
use Rattle.season_records.specs.declared.slot.Slot.{Slot}
use Rattle.season_records.specs.declared.slot.Slot.TheVariants as slot
use Rattle.season_records.proofs.ItemLaws.{item_back}
use Rattle.season_records.specs.Records.{cup_item, entry_item, last_item, league_item, member_told, no_position, pick_told, records, team_item, team_told as team_told_of, told, told_in, transfer_item, transfer_told}
use Rattle.season_records.proofs.Finds.{none_in}
use Rattle.season_records.proofs.Slots.{slots_tell_of_themselves}
use Rattle.stored_records.specs.EntryTold.{first_in, first_told, sale_in, sale_told, team_in, team_told}
use Rattle.stored_records.specs.SeasonRules.{misses}
use Rattle.stored_records.specs.Stored.{Rows}
use Rattle.stored_records.proofs.Found.{found_at}
use Rattle.store_validation.specs.EntryRules.{entry_breaks}
use Rattle.store_validation.specs.Lawful.{breaks, first_wrong, is_in_range, is_spelled, is_wrong, judged}
use Rattle.season_opening.specs.Opening.{IsJudgedAs, IsKeepable}
use Rattle.lawful_books.specs.FactsRules.{IsOfFacts}
use Rattle.lawful_books.proofs.Rules.{facts_break_no_rule}
use Rattle.lawful_books.proofs.Telling.{of_record}
use Rattle.lawful_books.specs.Leagues.{IsBlank}
use Rattle.lawful_books.specs.LeaguesRules.{IsLawfulItem, IsLawfulSlot}
use Rattle.lawful_books.proofs.Asked as asked
use Rattle.lawful_books.proofs.RulesHold.{cups_break_none, entries_are_issued_rightly, issues_break_none, lasts_break_none, leagues_break_none, members_break_none}
use Rattle.lawful_books.specs.Recorded.{IsInSeason, IsRecorded}
use Rattle.lawful_books.proofs.Recorded.{first_teams_are_told, teams_are_in_season}
use Rattle.lawful_books.proofs.Transfers.{transfers_are_lawful}
use Rattle.lawful_books.specs.TeamsTold.{IsLawfulEntryOf, RecordedTeam, Tells}
use Rattle.lawful_books.proofs.Fit.{teams_told_are_fit}
use Rattle.lawful_books.proofs.Sequel.{teams_told_go_on}
use Rattle.lawful_books.specs.Books.{IsLawful}
use Rattle.lawful_books.specs.Judged.{LawfulBooksAreJudged, LawfulBooksAreWhole}
use Rattle.lawful_books.proofs.Stood.{IsStood, stood}

-- What a mapped element, or what one leads to, is.

mapped : {X Y : Type 0} (P : Y → Type 0) (f : X → Y) (o : Option X) (y : Y) → ((x : X) → o ≡ Some x → P (f x)) → option_map f o ≡ Some y → P y
mapped P f None y each is = absurd (none-some y is)
mapped P f (Some x) y each is = subst P (same_Some (f x) y is) (each x refl)

led_to : {X Y : Type 0} (P : Y → Type 0) (f : X → Option Y) (o : Option X) (y : Y) → ((x : X) → o ≡ Some x → f x ≡ Some y → P y)
    → option_and_then f o ≡ Some y → P y
led_to P f None y each is = absurd (none-some y is)
led_to P f (Some x) y each is = each x refl is

-- A lawful book in its season, with rows of its records.
module _ (book : Book) (facts : Facts) (rows : Rows) (keepable : IsKeepable book) (lawful : IsLawful book) (season : book.facts ≡ Some facts)
    (rise : KeysRise rows) (same : map_of rows ≡ records book) where
  abbrev m : Map
  m = map_of rows

  tells : Tells m book
  tells = asked.told_same book facts rows keepable.items season rise same

  there : misses m slot.Season ≡ false
  there = asked.season_there book facts rows keepable.items season rise same

  of_facts : (s : Slot) → IsOfFacts s → IsLawfulSlot book rows s
  of_facts s of i at =
      let both = facts_break_no_rule book facts rows (record { facts_are = season; lawful = lawful.facts facts season; items = keepable.items; rise = rise; same = same }) s of i at in
      record { range = both.0; rules = both.1 }

  module _ (e : ℕ) (entry : EntryFacts) (at : entry_in book.entries e ≡ Some entry) where
    kept : IsStood book entry.history
    kept = stood book facts e entry keepable (keepable.order.facts facts season).players season at

    recorded : IsRecorded m book facts e entry
    recorded = record {
      told = tells;
      season = season;
      there = at;
      history = kept.history;
      early = kept.early;
      lawful = lawful.histories facts season e entry at;
    }

    lawful_entry : IsLawfulEntryOf book facts e entry
    lawful_entry = record { season = season; there = at; history = kept.history; lawful = lawful.histories facts season e entry at; paid = kept.paid }

    -- the entry itself
    entry_lawful : IsLawfulItem rows (entry_item e entry)
    entry_lawful = record {
      range = refl;
      rules =
          or_from _ _ there
          (issues_break_none rows e (start_of entry.history) entry.key
          (entries_are_issued_rightly book facts rows lawful.leagues keepable.order keepable.items season rise same e entry at)
          (subst (λ first. entry_breaks m e first ≡ false) first (first_teams_are_told m book facts e entry recorded)));
    }
      where
        first : first_told m e ≡ start_of entry.history
        first = ap first_in (tells (slot.Entry e) ∙ ap (option_map (entry_item e)) at)

    -- a team
    team_lawful : (g : ℕ) → is_touched entry.history g ≡ true → IsLawfulItem rows (team_item e g (team_of no_position entry.history g))
    team_lawful g here = record {
      range = refl;
      rules =
          or_from _ _ there
          (ap not (and_from _ _ (and_from _ _ (and_from _ _ season_of.in_time (teams_told_are_fit m book facts e entry g t tells lawful_entry is)) season_of.playable)
          (teams_told_go_on m book facts e entry g t tells lawful_entry is)));
    }
      where
        team : Team
        team = team_of no_position entry.history g

        t : RecordedTeam
        t = record { picks = map pick_told team.picks; captain = team.captain; vice = team.vice; bank = team.bank; chip = team.chip }

        season_of : IsInSeason m e g entry
        season_of = teams_are_in_season m book facts e entry g recorded here

        is : team_told m e g ≡ Some t
        is = ap team_in (tells (slot.Team e g) ∙ ap (option_and_then (λ (entry : EntryFacts). team_told_of e g entry.history)) at
            ∙ ap (λ b. if b then Some (team_item e g team) else None) here)

    -- a transfer
    transfer_lawful : (g n : ℕ) (s : Sale) → entry_in (sold_in entry.history g) n ≡ Some s → IsLawfulItem rows (transfer_item e g n s)
    transfer_lawful g n s found = record { range = refl; rules = or_from _ _ there (transfers_are_lawful m book facts e entry g n s recorded is) }
      where
        is : sale_told m e g n ≡ Some s
        is = ap sale_in (tells (slot.Transfer e g n) ∙ ap (option_and_then (λ (entry : EntryFacts). transfer_told e g n entry.history)) at
            ∙ ap (option_map (transfer_item e g n)) found)

  -- Each slot, and each record.

  slot_lawful : (s : Slot) → IsLawfulSlot book rows s
  slot_lawful (slot.Entry e) i = mapped (IsLawfulItem rows) (entry_item e) (entry_in book.entries e) i (entry_lawful e)
  slot_lawful (slot.Team e g) i =
      led_to (IsLawfulItem rows) (λ (entry : EntryFacts). team_told_of e g entry.history) (entry_in book.entries e) i (λ entry at is.
      let both = cond_some (is_touched entry.history g) (team_item e g (team_of no_position entry.history g)) i is in
      subst (IsLawfulItem rows) both.1 (team_lawful e entry at g both.0))
  slot_lawful (slot.Transfer e g n) i =
      led_to (IsLawfulItem rows) (λ (entry : EntryFacts). transfer_told e g n entry.history) (entry_in book.entries e) i (λ entry at.
      mapped (IsLawfulItem rows) (transfer_item e g n) (entry_in (sold_in entry.history g) n) i (transfer_lawful e entry at g n))
  slot_lawful (slot.League l) i = leagues_break_none book facts rows lawful.leagues keepable.order keepable.items season rise same l i
  slot_lawful (slot.Member l e) i = members_break_none book facts rows lawful.leagues keepable.order keepable.items season rise same l e i
  slot_lawful (slot.Cup c) i = cups_break_none book facts rows lawful.leagues keepable.order keepable.items season rise same c i
  slot_lawful (slot.Last c) i = lasts_break_none book facts rows lawful.leagues keepable.order keepable.items season rise same c i
  slot_lawful slot.Season i = of_facts slot.Season tt i
  slot_lawful (slot.Club c) i = of_facts (slot.Club c) tt i
  slot_lawful (slot.Player p) i = of_facts (slot.Player p) tt i
  slot_lawful (slot.Fixture f) i = of_facts (slot.Fixture f) tt i
  slot_lawful (slot.Line f p) i = of_facts (slot.Line f p) tt i

  read : (s : Slot) (i : Item) → told book s ≡ Some i → item_of (key_of s) (body_of i) ≡ Some i
  read s i at = subst (λ t. item_of (key_of t) (body_of i) ≡ Some i) (slots_tell_of_themselves book s i at) (item_back i (keepable.items s i at))

  -- a record of the map has these keys and bodies
  record_lawful : (key : Key) (body : List ℕ) → m key ≡ Some body → (is_spelled (key, body) ≡ true) × (is_wrong rows (key, body) ≡ false)
  record_lawful key body there =
      let of = of_record book key body (sym (ap (λ (m : Map). m key) same) ∙ there) in
      let i : Item = of.2.0 in
      let row : item_of key body ≡ Some i =
      ap (λ k. item_of k body) of.1 ∙ ap (item_of (key_of of.0)) (sym of.2.2) ∙ read of.0 i of.2.1 in
      let right = slot_lawful of.0 i of.2.1 in (
        ap (λ o. option_map_or is_in_range o false) row ∙ right.range,
        ap (λ o. option_map_or (breaks rows) o false) row ∙ right.rules,
      )

  row_lawful : (k : ℕ) (d : Key × List ℕ) → k < length rows → (is_spelled (get_or rows k d) ≡ true) × (is_wrong rows (get_or rows k d) ≡ false)
  row_lawful k d within = record_lawful (get_or rows k d).0 (get_or rows k d).1 (found_at rows k d rise within)

-- where no element passes a test, none is found
none_passes : {X : Type 0} (test : X → Bool) (xs : List X) → ((k : ℕ) (d : X) → k < length xs → test (get_or xs k d) ≡ false) → find test xs ≡ None
none_passes test [] fails = refl
none_passes test (x ∷ xs) fails =
    ap (λ b. cond b (Some x) (find test xs)) (fails 0 x (omega arith)) ∙ none_passes test xs (λ k d lt. fails (suc k) d (omega (arith, lt)))

none_judged : (rows : Rows) → ((k : ℕ) (d : Key × List ℕ) → k < length rows → (is_spelled (get_or rows k d) ≡ true) × (is_wrong rows (get_or rows k d) ≡ false))
    → judged rows ≡ None
none_judged rows each =
    ap (λ o. option_or (option_map (λ (row : Key × List ℕ). row.0) o) (first_wrong rows)) (none_passes (λ row. not (is_spelled row)) rows (λ k d lt. ap not (each k d lt).0))
    ∙ ap (option_map (λ (row : Key × List ℕ). row.0)) (none_passes (is_wrong rows) rows (λ k d lt. (each k d lt).1))

-- before the season there is no record
blank_tells : (book : Book) → book.facts ≡ None → IsBlank book → (s : Slot) (i : Item) → told book s ≡ Some i → ⊥
blank_tells book none blank slot.Season i at = none-some i (sym (ap (option_and_then (λ facts. told_in facts slot.Season)) none) ∙ at)
blank_tells book none blank (slot.Club c) i at = none-some i (sym (ap (option_and_then (λ facts. told_in facts (slot.Club c))) none) ∙ at)
blank_tells book none blank (slot.Player p) i at = none-some i (sym (ap (option_and_then (λ facts. told_in facts (slot.Player p))) none) ∙ at)
blank_tells book none blank (slot.Fixture f) i at = none-some i (sym (ap (option_and_then (λ facts. told_in facts (slot.Fixture f))) none) ∙ at)
blank_tells book none blank (slot.Line f p) i at = none-some i (sym (ap (option_and_then (λ facts. told_in facts (slot.Line f p))) none) ∙ at)
blank_tells book none blank (slot.Entry e) i at = none-some i (sym (ap (option_map (entry_item e)) (ap (λ xs. entry_in xs e) blank.entries ∙ none_in e)) ∙ at)
blank_tells book none blank (slot.Team e g) i at =
    none-some i (sym (ap (option_and_then (λ (entry : EntryFacts). team_told_of e g entry.history)) (ap (λ xs. entry_in xs e) blank.entries ∙ none_in e)) ∙ at)
blank_tells book none blank (slot.Transfer e g n) i at =
    none-some i (sym (ap (option_and_then (λ (entry : EntryFacts). transfer_told e g n entry.history)) (ap (λ xs. entry_in xs e) blank.entries ∙ none_in e)) ∙ at)
blank_tells book none blank (slot.League l) i at = none-some i (sym (ap (option_map (league_item l)) (ap (λ xs. entry_in xs l) blank.leagues ∙ none_in l)) ∙ at)
blank_tells book none blank (slot.Member l e) i at = none-some i (sym (ap (option_and_then (member_told l e)) (ap (λ xs. entry_in xs l) blank.leagues ∙ none_in l)) ∙ at)
blank_tells book none blank (slot.Cup c) i at = none-some i (sym (ap (option_map (cup_item c)) (ap (λ xs. entry_in xs c) blank.cups ∙ none_in c)) ∙ at)
blank_tells book none blank (slot.Last c) i at = none-some i (sym (ap (λ (xs : List (ℕ × Last)). option_map (last_item c) (at_id xs c)) blank.lasts) ∙ at)

rows_judged : (book : Book) (rows : Rows) → IsKeepable book → IsLawful book → KeysRise rows → map_of rows ≡ records book → judged rows ≡ None
rows_judged book rows keepable lawful rise same = by book.facts refl
  where
    by : (some : Option Facts) → book.facts ≡ some → judged rows ≡ None
    by None none = none_judged rows (λ k d lt.
        let key : Key = (get_or rows k d).0 in
        let of = of_record book key (get_or rows k d).1 (sym (ap (λ (m : Map). m key) same) ∙ found_at rows k d rise lt) in
        absurd (blank_tells book none (lawful.leagues.blank none) of.0 of.2.0 of.2.1))
    by (Some facts) season = none_judged rows (row_lawful book facts rows keepable lawful season rise same)

pub lawful_books_are_judged : LawfulBooksAreJudged
lawful_books_are_judged book key keepable lawful given = sym given.judged ∙ rows_judged book given.rows keepable lawful given.rise (sym given.map)

pub lawful_books_are_whole : (tells : Type 0) (before after passes : Map → Type 0) → LawfulBooksAreWhole tells before after passes
lawful_books_are_whole gives before after passes book key so keepable lawful held damaged =
    none-some key (sym (lawful_books_are_judged book (Some key) keepable lawful
    (subst (λ m. IsJudgedAs m (Some key)) (sym (damaged.loaded.same so (records book) held)) damaged.judged)))
