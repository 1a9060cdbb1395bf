-- All entries of lawful records: what restored managers tell is what the records tell.
use Rattle.std.proofs.Common.{◌≡◌, ◌<◌, ◌≤◌, ◌+◌, ◌-◌, ℕ, zero, suc, cond, List, [], ◌∷◌, ◌++◌, length, min, Option, Some, None, refl, sym, ap, ◌∙◌, subst, inl, inr, arith}
use Rattle.std.specs.List.{AllByRecursion as Each}
use Rattle.std.specs.Option.{is_some, option_and_then, option_map}
use Rattle.std.specs.Prelude.{IfOk, OnOk, Result, Ok, Err, nat_lt, slice_get}
use Rattle.std.proofs.lemmas.Bool.{cases_lt, true≢false}
use Rattle.std.proofs.lemmas.Bool.Decides.{nat_tests}
use Rattle.fpl_base.specs.Keeping.{Map, map_of}
use Rattle.season_records.specs.declared.item.Item.{Item}
use Rattle.season_records.specs.declared.slot.Slot.TheVariants as slot
use Rattle.rule_book.specs.declared.player.Player.{Player}
use Rattle.rule_book.specs.declared.team.Team.{Team}
use Rattle.rule_book.specs.declared.transfers.Sale.{Sale}
use Rattle.rule_book.specs.Entries.{entry_in}
use Rattle.season_ledger.specs.Rows.{AllUpTo, rows_of_records}
use Rattle.manager_book.specs.declared.manager.Manager.{Manager}
use Rattle.season_book.specs.Book.{Facts}
use Rattle.season_book.specs.EntryViews.{gameweek_seen}
use Rattle.stored_records.specs.EntryTold.{first_in as first_of_item, first_told, last_open, sale_told, team_in}
use Rattle.stored_records.specs.SeasonRules.{terms_told}
use Rattle.stored_records.specs.Stored.{Rows, deadlines_in, locked_in, told}
use Rattle.store_validation.specs.Lawful.{judged}
use Rattle.store_validation.proofs.EntriesJudged.{judged_lawful, team_has}
use Rattle.store_validation.proofs.Lawful.{lawful_at, lawful_sale_at}
use Rattle.season_entries.specs.Deeds.{AreInTime}
use Rattle.season_entries.specs.EntryLaws.{AreEarly}
use Rattle.season_records.specs.Records.{told_in}
use Rattle.record_changes.specs.Ordered.{IsManagerInOrder}
use Rattle.record_changes.specs.RowsTold.{manager_item, team_by, transfer_by}
use Rattle.season_restoring.specs.Restoring.{AreRestored, EndsAt, IsRestored}
use Rattle.season_restoring.proofs.Issued.{are_there, entry_pushed, none_behind, room, slice_there, told_shape}
use Rattle.season_restoring.proofs.Numbers.{entry_at}
use Rattle.season_restoring.proofs.EntriesTold.{item_of_sale, no_entry_zero, told_sale}

some_not_none : {A : Type 0} (x : A) (o : Option A) → o ≡ Some x → o ≡ None → ⊥
some_not_none x o some none = absurd (cc)

-- One more.

pub one_more : (m : Map) (players : List Player) (managers : List Manager) (new : Manager) → AreRestored m players managers → IsRestored m players (length managers + 1) new
    → AreRestored m players (managers ++ new ∷ [])
one_more m players managers new restored last e manager found =
    elim (entry_pushed managers new e manager found) [
      | inl there ↦ restored e manager there
      | inr at ↦ subst (λ x. IsRestored m players e x) at.1 (subst (λ i. IsRestored m players i new) (sym at.0) last)
    ]

-- the same by what a book made of equal records
pub made_next : (m : Map) (players : List Player) (managers : List Manager) (key name : List ℕ) (teams : List (ℕ × Team)) (sales : List (ℕ × Sale))
    (teams_read : List (ℕ × Team)) (sales_read : List (ℕ × Sale)) → teams ≡ teams_read → sales ≡ sales_read → AreRestored m players managers
    → IsRestored m players (length managers + 1) (record { key = key; name = name; season = rows_of_records teams_read sales_read; sales = sales_read })
    → AreRestored m players (managers ++ record { key = key; name = name; season = rows_of_records teams sales; sales = sales } ∷ [])
made_next m players managers key name teams sales teams_read sales_read same_teams same_sales restored own =
    one_more m players managers (record { key = key; name = name; season = rows_of_records teams sales; sales = sales }) restored
    (subst (λ s. IsRestored m players (length managers + 1) (record { key = key; name = name; season = rows_of_records teams s; sales = s })) (sym same_sales)
    (subst (λ t. IsRestored m players (length managers + 1) (record { key = key; name = name; season = rows_of_records t sales_read; sales = sales_read })) (sym same_teams) own))

-- Of each.

each_of : (P : Manager → Type 0) (xs : List Manager) → ((i : ℕ) (x : Manager) → slice_get xs i ≡ Some x → P x) → Each P xs
each_of P [] holds = tt
each_of P (x ∷ xs) holds = (holds 0 x refl, each_of P xs (λ i y found. holds (suc i) y found))

in_time_of : (w : ℕ) (xs : List Manager) → ((i : ℕ) (x : Manager) → slice_get xs i ≡ Some x → AllUpTo w x.season) → AreInTime (Some w) xs
in_time_of w [] holds = tt
in_time_of w (x ∷ xs) holds = (holds 0 x refl, in_time_of w xs (λ i y found. holds (suc i) y found))

module _ (rows : Rows) (lawful : judged rows ≡ None) (players : List Player) (managers : List Manager) (restored : AreRestored (map_of rows) players managers) (ends : EndsAt (map_of rows) (length managers)) where
  no_entry : (e : ℕ) → entry_in managers e ≡ None → told (map_of rows) (slot.Entry e) ≡ None
  no_entry zero none = no_entry_zero (map_of rows)
  no_entry (suc i) none =
      elim (cases_lt i (length managers)) [
        | inl less ↦ absurd (let there = slice_there managers i less in some_not_none there.0 (slice_get managers i) there.1 (sym (entry_at managers i) ∙ none))
        | inr more ↦ ap (λ e. told (map_of rows) (slot.Entry e)) (same more) ∙ none_behind rows lawful (length managers) ends (i - length managers)
      ]
    where
      same : length managers ≤ i → suc i ≡ length managers + 1 + (i - length managers)
      same more = omega (arith, more)

  no_team : (e g : ℕ) → entry_in managers e ≡ None → told (map_of rows) (slot.Team e g) ≡ None
  no_team e g none = by (told (map_of rows) (slot.Team e g)) refl
    where
      by : (o : Option Item) → told (map_of rows) (slot.Team e g) ≡ o → told (map_of rows) (slot.Team e g) ≡ None
      by None is = is
      by (Some i) is =
          let has = team_has (map_of rows) e g i is in
          let time = (lawful_at (map_of rows) e (judged_lawful rows lawful e) g has.team (ap team_in (is ∙ sym (ap Some has.is)))).time in
          absurd (some_not_none time.start (first_told (map_of rows) e) time.first_is (ap first_of_item (no_entry e none)))

  no_sale_told : (e g n : ℕ) → entry_in managers e ≡ None → sale_told (map_of rows) e g n ≡ None
  no_sale_told e g n none = by (sale_told (map_of rows) e g n) refl
    where
      by : (o : Option Sale) → sale_told (map_of rows) e g n ≡ o → sale_told (map_of rows) e g n ≡ None
      by None is = is
      by (Some s) is =
          let team = (lawful_sale_at (map_of rows) e (judged_lawful rows lawful e) g n s is).team in
          absurd (true≢false (sym team ∙ ap (λ o. is_some (team_in o)) (no_team e g none)))

  no_sale : (e g n : ℕ) → entry_in managers e ≡ None → told (map_of rows) (slot.Transfer e g n) ≡ None
  no_sale e g n none = sym (told_sale (map_of rows) e g n) ∙ ap (option_map (item_of_sale e g n)) (no_sale_told e g n none)

  pub entries : (e : ℕ) → option_map (manager_item e) (entry_in managers e) ≡ told (map_of rows) (slot.Entry e)
  entries e = by (entry_in managers e) refl
    where
      by : (o : Option Manager) → entry_in managers e ≡ o → option_map (manager_item e) o ≡ told (map_of rows) (slot.Entry e)
      by None is = sym (no_entry e is)
      by (Some x) is = (restored e x is).entry

  pub teams : (e g : ℕ) → option_and_then (team_by e g) (entry_in managers e) ≡ told (map_of rows) (slot.Team e g)
  teams e g = by (entry_in managers e) refl
    where
      by : (o : Option Manager) → entry_in managers e ≡ o → option_and_then (team_by e g) o ≡ told (map_of rows) (slot.Team e g)
      by None is = sym (no_team e g is)
      by (Some x) is = (restored e x is).teams g

  pub transfers : (e g n : ℕ) → option_and_then (transfer_by e g n) (entry_in managers e) ≡ told (map_of rows) (slot.Transfer e g n)
  transfers e g n = by (entry_in managers e) refl
    where
      by : (o : Option Manager) → entry_in managers e ≡ o → option_and_then (transfer_by e g n) o ≡ told (map_of rows) (slot.Transfer e g n)
      by None is = sym (no_sale e g n is)
      by (Some x) is = (restored e x is).transfers g n

  pub ordered : Each (IsManagerInOrder players) managers
  ordered = each_of (IsManagerInOrder players) managers (λ i x found. (restored (suc i) x (entry_at managers i ∙ found)).ordered)

  pub early : (facts : Facts) → told_in facts slot.Season ≡ told (map_of rows) slot.Season → AreEarly facts managers
  early facts season = in_time_of (gameweek_seen facts.calendar) managers
      (λ i x found. subst (λ w. AllUpTo w x.season) (sym seen) (restored (suc i) x (entry_at managers i ∙ found)).early)
    where
      last_of : Option Item → ℕ
      last_of o = cond (nat_lt (locked_in o) (length (deadlines_in o))) (locked_in o + 1) (length (deadlines_in o))

      least : (a b : ℕ) → min (a + 1) b ≡ cond (nat_lt a b) (a + 1) b
      least a b = grind (arith, nat_tests)

      seen : gameweek_seen facts.calendar ≡ last_open (terms_told (map_of rows))
      seen = least facts.calendar.locked (length facts.calendar.deadlines) ∙ ap last_of season

-- so many are all that there can be
pub full : (rows : Rows) → judged rows ≡ None → (players : List Player) (managers : List Manager) → AreRestored (map_of rows) players managers
    → 2048 ≤ length managers → EndsAt (map_of rows) (length managers)
full rows lawful players managers restored many = by (told (map_of rows) (slot.Entry (length managers + 1))) refl
  where
    by : (o : Option Item) → told (map_of rows) (slot.Entry (length managers + 1)) ≡ o → told (map_of rows) (slot.Entry (length managers + 1)) ≡ None
    by None is = is
    by (Some i) is =
        let shape = told_shape rows lawful (length managers + 1) i is in
        let less : length managers < 2048
        = room rows lawful (length managers) shape.first shape.key shape.name (are_there rows lawful players managers restored) shape.tells in
        absurd (omega (arith, less, many))

-- Of calls.

pub on_ok_to : {T E A B : Type 0} (r : Result T E) → OnOk r A → (A → B) → IfOk r (λ (t : T). B)
on_ok_to (Ok t) own to = to own
on_ok_to (Err e) own to = own
