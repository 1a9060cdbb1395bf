-- Entries of lawful records are numbered 1, 2, 3 and so on, are few enough, and have different keys.
use Rattle.std.proofs.Common.{◌≡◌, ◌<◌, ◌≤◌, ◌+◌, ◌-◌, ℕ, zero, suc, Bool, true, false, cond, not, ◌&&◌, ◌||◌, eqb, List, [], ◌∷◌, ◌++◌, length, Option, Some, None, refl, sym, ap, ap₂, ◌∙◌, inl, inr, ◌⊎◌, arith}
use Rattle.std.specs.List.{list_any}
use Rattle.std.specs.Prelude.{nat_le, slice_get}
use Rattle.std.specs.Str.{bytes_eq}
use Rattle.std.proofs.lemmas.Bool.{cases_Bool, lt-ltb, ne_eqb, not-false, or_parts, true≢false}
use Rattle.std.proofs.lemmas.Bool.Decides.{nat_tests}
use Rattle.std.proofs.lemmas.Slice.Eq.{bytes_eq-Decides}
use Rattle.fpl_base.specs.Keeping.{is_same_key, map_of, precedes}
use Rattle.fpl_base.specs.declared.records.RecordKey.{RecordKey as Key}
use Rattle.fpl_base.proofs.KeyLemmas.{same_key}
use Rattle.season_records.specs.ItemReading.{item_of}
use Rattle.season_records.specs.Keys.{key_of}
use Rattle.season_records.specs.declared.item.Item.{Item}
use Rattle.season_records.specs.declared.item.Item.TheVariants as item
use Rattle.season_records.specs.declared.slot.Slot.TheVariants as slot
use Rattle.rule_book.specs.declared.player.Player.{Player}
use Rattle.rule_book.specs.Entries.{entry_in, most_entries}
use Rattle.season_ledger.specs.Rows.{first_in}
use Rattle.manager_book.specs.declared.manager.Manager.{Manager}
use Rattle.manager_book.specs.Managers.{number_from}
use Rattle.stored_records.specs.SeasonRules.{is_full, misses}
use Rattle.stored_records.specs.Stored.{Rows, between, is_there, is_within, told}
use Rattle.store_validation.specs.EntryRules.{entry_breaks}
use Rattle.store_validation.specs.Lawful.{judged}
use Rattle.store_validation.specs.LeagueRules.{has_gap, has_key, has_other_key, issue_breaks}
use Rattle.store_validation.proofs.EntriesJudged.{and_then_some, entry_has, nothing_broken}
use Rattle.season_restoring.specs.Restoring.{AreRestored, EndsAt, IsRestored, IsTold}
use Rattle.season_restoring.proofs.NumberedKeys.{at_least, within}
use Rattle.season_restoring.proofs.Numbers.{entry_at}
use Rattle.season_restoring.proofs.EntriesTold.{spelled_there}

-- Lists.

pub slice_there : {A : Type 0} (xs : List A) (i : ℕ) → i < length xs → (x : A) × (slice_get xs i ≡ Some x)
slice_there [] i less = absurd (omega (arith, less))
slice_there (x ∷ xs) zero less = (x, refl)
slice_there (x ∷ xs) (suc i) less = slice_there xs i (omega (arith, less))

pub slice_pushed : {A : Type 0} (xs : List A) (x : A) (i : ℕ) (y : A) → slice_get (xs ++ x ∷ []) i ≡ Some y → (slice_get xs i ≡ Some y) ⊎ ((i ≡ length xs) × (x ≡ y))
slice_pushed [] x zero y found = inr (refl, some_is x y found)
  where
    some_is : {A : Type 0} (a b : A) → Some a ≡ Some b → a ≡ b
    some_is a b e = cc
slice_pushed [] x (suc i) y found = absurd (cc)
slice_pushed (z ∷ xs) x zero y found = inl found
slice_pushed (z ∷ xs) x (suc i) y found = elim (slice_pushed xs x i y found) [ inl there ↦ inl there | inr last ↦ inr (ap suc last.0, last.1) ]

pub entry_pushed : {A : Type 0} (xs : List A) (x : A) (e : ℕ) (y : A) → entry_in (xs ++ x ∷ []) e ≡ Some y → (entry_in xs e ≡ Some y) ⊎ ((e ≡ length xs + 1) × (x ≡ y))
entry_pushed xs x zero y found = absurd (cc)
entry_pushed xs x (suc i) y found =
    elim (slice_pushed xs x i y (sym (entry_at (xs ++ x ∷ []) i) ∙ found)) [
      | inl there ↦ inl (entry_at xs i ∙ there)
      | inr last ↦ inr (omega (arith, last.0), last.1)
    ]

any_passes : (test : Key × List ℕ → Bool) (rows : Rows) → list_any test rows ≡ false → (k : Key) (body : List ℕ) → map_of rows k ≡ Some body → test (k, body) ≡ false
any_passes test [] none k body there = absurd (cc)
any_passes test (row ∷ rows) none k body there =
    let split = or_parts (test row) (list_any test rows) none in
    elim (cases_Bool (is_same_key row.0 k)) [
      | inl same ↦ (
          let own : row.1 ≡ body = some_is row.1 body (sym (ap (λ b. cond b (Some row.1) (map_of rows k)) same) ∙ there) in
          sym (ap₂ (λ x y. test (x, y)) (same_key row.0 k same) own) ∙ split.0)
      | inr apart ↦ any_passes test rows split.1 k body (sym (ap (λ b. cond b (Some row.1) (map_of rows k)) apart) ∙ there)
    ]
  where
    some_is : (a b : List ℕ) → Some a ≡ Some b → a ≡ b
    some_is a b e = cc

-- The keys of entries.

entry_precedes : (i e : ℕ) → i < e → precedes (key_of (slot.Entry i)) (key_of (slot.Entry e)) ≡ true
entry_precedes i e less = ap (λ b. b || ((eqb i e) && false)) (lt-ltb i e less)

entry_stays : (i e : ℕ) → e ≤ i → precedes (key_of (slot.Entry i)) (key_of (slot.Entry e)) ≡ false
entry_stays i e le = grind (arith, nat_tests, le)

-- so many entries are there
abbrev pub AreThere : Rows → ℕ → Type 0
AreThere rows count = (i : ℕ) → 1 ≤ i → i ≤ count → (body : List ℕ) × (map_of rows (key_of (slot.Entry i)) ≡ Some body)

some_not_none : {A : Type 0} (x : A) (o : Option A) → o ≡ Some x → o ≡ None → ⊥
some_not_none x o some none = absurd (cc)

module _ (rows : Rows) (lawful : judged rows ≡ None) where
  -- What the rule on entries says of one.

  pub record IsIssued (e : ℕ) (key : List ℕ) : Type 0 where
    pub gap : has_gap (map_of rows) e (slot.Entry (e - 1)) ≡ false
    pub fresh : has_other_key rows e key ≡ false
    pub few : is_full rows most_entries (slot.Entry 0) (slot.Entry e) ≡ false

  pub issued : (e : ℕ) (first : Option ℕ) (key name : List ℕ) → IsTold (map_of rows) e first key name → IsIssued e key
  issued e first key name is =
      let right : issue_breaks rows e first key ≡ false = nothing_broken rows lawful (slot.Entry e) (item.Entry e first key name) is in
      let gap = has_gap (map_of rows) e (slot.Entry (e - 1)) in
      let other = has_other_key rows e key in
      let three = or_parts (gap || other || entry_breaks (map_of rows) e first) (is_full rows most_entries (slot.Entry 0) (slot.Entry e)) right in
      let two = or_parts (gap || other) (entry_breaks (map_of rows) e first) three.0 in
      let one = or_parts gap other two.0 in
      record { gap = one.0; fresh = one.1; few = three.1 }

  pub record TellsEntry (e : ℕ) : Type 0 where
    pub first : Option ℕ
    pub key : List ℕ
    pub name : List ℕ
    pub tells : IsTold (map_of rows) e first key name

  pub told_shape : (e : ℕ) (i : Item) → told (map_of rows) (slot.Entry e) ≡ Some i → TellsEntry e
  told_shape e i is =
      let has = entry_has (map_of rows) e i is in
      record { first = has.first; key = has.key; name = has.name; tells = is ∙ sym (ap Some has.is) }

  -- No more than 2,048.
  pub room : (count : ℕ) (first : Option ℕ) (key name : List ℕ) → AreThere rows count → IsTold (map_of rows) (count + 1) first key name → count < 2048
  room count first key name there is =
      let few = (issued (count + 1) first key name is).few in
      let many = at_least (λ e. key_of (slot.Entry e)) entry_precedes entry_stays rows count there in
      less (between rows (key_of (slot.Entry 0)) (key_of (slot.Entry (count + 1)))) few many
    where
      less : (n : ℕ) → nat_le 2048 n ≡ false → count ≤ n → count < 2048
      less n few many = grind (arith, nat_tests, few, many)

  -- Behind one that is not there, none is.
  pub none_behind : (count : ℕ) → EndsAt (map_of rows) count → (d : ℕ) → told (map_of rows) (slot.Entry (count + 1 + d)) ≡ None
  none_behind count ends zero = ap (λ e. told (map_of rows) (slot.Entry e)) (omega arith) ∙ ends
  none_behind count ends (suc d) = by (told (map_of rows) (slot.Entry (count + 1 + suc d))) refl (none_behind count ends d)
    where
      by : (o : Option Item) → told (map_of rows) (slot.Entry (count + 1 + suc d)) ≡ o → told (map_of rows) (slot.Entry (count + 1 + d)) ≡ None
          → told (map_of rows) (slot.Entry (count + 1 + suc d)) ≡ None
      by None is rest = is
      by (Some i) is rest =
          let shape = told_shape (count + 1 + suc d) i is in
          let gap = (issued (count + 1 + suc d) shape.first shape.key shape.name shape.tells).gap in
          let later : eqb (count + 1 + suc d) 1 ≡ false = ne_eqb (count + 1 + suc d) 1 (λ e. omega (arith, e)) in
          let misses_it : misses (map_of rows) (slot.Entry (count + 1 + suc d - 1)) ≡ false
          = sym (ap (λ b. not b && misses (map_of rows) (slot.Entry (count + 1 + suc d - 1))) later) ∙ gap in
          let before = spelled_there rows lawful (slot.Entry (count + 1 + suc d - 1)) (not-false (is_there (map_of rows) (slot.Entry (count + 1 + suc d - 1))) misses_it) in
          let same : count + 1 + suc d - 1 ≡ count + 1 + d = omega arith in
          absurd (some_not_none before.0 (told (map_of rows) (slot.Entry (count + 1 + suc d - 1))) before.1
          (ap (λ e. told (map_of rows) (slot.Entry e)) same ∙ rest))

  module _ (players : List Player) (managers : List Manager) (restored : AreRestored (map_of rows) players managers) where
    pub are_there : AreThere rows (length managers)
    are_there zero low high = absurd (omega (arith, low))
    are_there (suc i) low high =
        let manager = slice_there managers i (omega (arith, high)) in
        let own = restored (suc i) manager.0 (entry_at managers i ∙ manager.1) in
        let found = and_then_some (item_of (key_of (slot.Entry (suc i)))) (map_of rows (key_of (slot.Entry (suc i)))) _ (sym own.entry) in
        (found.0, found.1)

    other_key : (e : ℕ) (key : List ℕ) → has_other_key rows e key ≡ false → (i : ℕ) (x : Manager) → i < e → IsRestored (map_of rows) players i x → bytes_eq key x.key ≡ false
    other_key e key fresh i x less own =
        let found = and_then_some (item_of (key_of (slot.Entry i))) (map_of rows (key_of (slot.Entry i))) (item.Entry i (first_in x.season) x.key x.name) (sym own.entry) in
        let passes = any_passes (λ row. is_within (key_of (slot.Entry 0)) (key_of (slot.Entry e)) row.0 && has_key key (item_of row.0 row.1)) rows fresh (key_of (slot.Entry i)) found.0 found.1 in
        let apart : bytes_eq x.key key ≡ false
        = sym (ap₂ (λ a o. a && has_key key o) (within (λ n. key_of (slot.Entry n)) entry_precedes entry_stays i e less) found.2) ∙ passes in
        turned (bytes_eq key x.key) refl apart
      where
        turned : (b : Bool) → bytes_eq key x.key ≡ b → bytes_eq x.key key ≡ false → bytes_eq key x.key ≡ false
        turned false is apart = is
        turned true is apart =
            absurd (true≢false (sym ((bytes_eq-Decides x.key key).1 (sym ((bytes_eq-Decides key x.key).0 is))) ∙ apart))

    pub no_other : (key : List ℕ) (first : Option ℕ) (name : List ℕ) → IsTold (map_of rows) (length managers + 1) first key name → number_from 1 managers key ≡ None
    no_other key first name is =
        no_number managers 1
        (λ j x found. other_key (length managers + 1) key (issued (length managers + 1) first key name is).fresh (suc j) x (below managers j x found) (restored (suc j) x (entry_at managers j ∙ found)))
      where
        below : (xs : List Manager) (j : ℕ) (x : Manager) → slice_get xs j ≡ Some x → suc j < length xs + 1
        below [] zero x found = absurd (cc)
        below [] (suc j) x found = absurd (cc)
        below (y ∷ xs) zero x found = omega arith
        below (y ∷ xs) (suc j) x found = omega (arith, below xs j x found)

        no_number : (xs : List Manager) (n : ℕ) → ((j : ℕ) (x : Manager) → slice_get xs j ≡ Some x → bytes_eq key x.key ≡ false) → number_from n xs key ≡ None
        no_number [] n differ = refl
        no_number (x ∷ xs) n differ =
            ap (λ b. cond b (Some n) (number_from (n + 1) xs key)) (differ 0 x refl) ∙ no_number xs (n + 1) (λ j y found. differ (suc j) y found)
