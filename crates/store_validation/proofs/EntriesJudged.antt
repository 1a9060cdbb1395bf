-- No record of an entry breaks a rule in a store in which nothing is found wrong.
use Rattle.std.proofs.Common.{◌≡◌, ℕ, Bool, true, false, cond, ◌&&◌, List, [], ◌∷◌, Option, Some, None, find, refl, sym, ap, ap₂, ◌∙◌, subst, inl, inr}
use Rattle.std.specs.Option.{option_and_then, option_map, option_map_or, option_or}
use Rattle.std.proofs.lemmas.Bool.{cases_Bool, or_parts}
use Rattle.fpl_base.proofs.KeyLemmas.{same_key}
use Rattle.fpl_base.specs.Keeping.{Map, is_same_key, map_of}
use Rattle.fpl_base.specs.declared.kinds.Chip.{Chip}
use Rattle.fpl_base.specs.declared.records.RecordKey.{RecordKey as Key}
use Rattle.record_fields.specs.Ranges.{is_gameweek, is_id}
use Rattle.record_fields.specs.Reading.{◌>>=◌, kept}
use Rattle.season_records.specs.ItemReading.{entry_in, item_of, team_in as team_read, transfer_in}
use Rattle.season_records.specs.Items.{is_item}
use Rattle.season_records.specs.Keys.{key, key_of}
use Rattle.season_records.specs.declared.item.Item.{Item}
use Rattle.season_records.specs.declared.item.Item.TheVariants as item
use Rattle.season_records.specs.declared.slot.Slot.{Slot}
use Rattle.season_records.specs.declared.slot.Slot.TheVariants as slot
use Rattle.rule_book.specs.declared.transfers.Sale.{Sale}
use Rattle.stored_records.specs.declared.entry_told.RecordedTeam.{RecordedTeam}
use Rattle.stored_records.specs.EntryTold.{first_in, first_told, sale_in, sale_told, team_in, team_told}
use Rattle.stored_records.specs.SeasonRules.{misses}
use Rattle.stored_records.specs.Stored.{Rows, told}
use Rattle.store_validation.specs.EntryLaws.{IsLawfulEntry, JudgedEntriesAreRestored}
use Rattle.store_validation.specs.EntryRules.{entry_breaks, team_breaks, transfer_breaks}
use Rattle.store_validation.specs.Lawful.{breaks, first_not_spelled, first_wrong, is_wrong, judged, rules_broken}
use Rattle.store_validation.specs.LeagueRules.{issue_breaks}
use Rattle.store_validation.proofs.Lawful.{lawful_restored}

-- Where none of the rows is found, none that a map tells of passes the test.

pub some_is : {A : Type 0} (x y : A) → Some x ≡ Some y → x ≡ y
some_is x y e = cc

pub none_found : (b : Bool) (row : Key × List ℕ) (o : Option (Key × List ℕ)) → cond b (Some row) o ≡ None → (b ≡ false) × (o ≡ None)
none_found true row o e = absurd (cc)
none_found false row o e = (refl, e)

pub none_passes : (test : Key × List ℕ → Bool) (rows : Rows) → find test rows ≡ None → (k : Key) (body : List ℕ) → map_of rows k ≡ Some body → test (k, body) ≡ false
none_passes test [] none k body there = absurd (cc)
none_passes test (row ∷ rows) none k body there =
    let split = none_found (test row) row (find test rows) none in
    elim (cases_Bool (is_same_key row.0 k)) [
      | inl same ↦ (
          let key : row.0 ≡ k = same_key row.0 k same in
          let own : row.1 ≡ body = some_is row.1 body (sym (ap (λ b. cond b (Some row.1) (map_of rows k)) same) ∙ there) in
          sym (ap₂ (λ x y. test (x, y)) key own) ∙ split.0)
      | inr apart ↦ none_passes test rows split.1 k body (sym (ap (λ b. cond b (Some row.1) (map_of rows k)) apart) ∙ there)
    ]

-- Nothing is found wrong.

pub none_either : (o p : Option Key) → option_or o p ≡ None → p ≡ None
none_either None p e = e
none_either (Some k) p e = absurd (cc)

pub none_mapped : {A B : Type 0} (f : A → B) (o : Option A) → option_map f o ≡ None → o ≡ None
none_mapped f None e = refl
none_mapped f (Some x) e = absurd (cc)

pub and_then_some : {A B : Type 0} (f : A → Option B) (o : Option A) (y : B) → option_and_then f o ≡ Some y → (x : A) × (o ≡ Some x) × (f x ≡ Some y)
and_then_some f None y e = absurd (cc)
and_then_some f (Some x) y e = (x, refl, e)

-- an item that is told breaks none of its rules
pub nothing_broken : (rows : Rows) → judged rows ≡ None → (s : Slot) (i : Item) → told (map_of rows) s ≡ Some i → rules_broken rows i ≡ false
nothing_broken rows lawful s i is =
    let wrong : find (is_wrong rows) rows ≡ None
    = none_mapped (λ (row : Key × List ℕ). row.0) (find (is_wrong rows) rows) (none_either (first_not_spelled rows) (first_wrong rows) lawful) in
    let there = and_then_some (item_of (key_of s)) (map_of rows (key_of s)) i is in
    let right : is_wrong rows (key_of s, there.0) ≡ false = none_passes (is_wrong rows) rows wrong (key_of s) there.0 there.1 in
    let broken : breaks rows i ≡ false = sym (ap (λ o. option_map_or (breaks rows) o false) there.2) ∙ right in
    (or_parts (misses (map_of rows) slot.Season) (rules_broken rows i) broken).1

-- What is told of a slot is an item of this slot.

of_reader : {A : Type 0} (f : A → Item) (o : Option A) (i : Item) → (o >>= λ a. kept is_item (f a)) ≡ Some i → (a : A) × (f a ≡ i)
of_reader f None i e = absurd (cc)
of_reader f (Some a) i e = (a, of_test (is_item (f a)) e)
  where
    of_test : (b : Bool) → cond b (Some (f a)) None ≡ Some i → f a ≡ i
    of_test true e = some_is (f a) i e
    of_test false e = absurd (cc)

if_some : (b : Bool) (o : Option Item) (i : Item) → cond b o None ≡ Some i → o ≡ Some i
if_some true o i e = e
if_some false o i e = absurd (cc)

-- the item of a slot has a shape
pub record HasTeam (e g : ℕ) (i : Item) : Type 0 where
  pub team : RecordedTeam
  pub is : item.Team e g team.picks team.captain team.vice team.bank team.chip ≡ i

pub record HasSale (e g n : ℕ) (i : Item) : Type 0 where
  pub sale : Sale
  pub is : item.Transfer e g n sale.out sale.into sale.sold sale.bought ≡ i

pub record HasEntry (e : ℕ) (i : Item) : Type 0 where
  pub first : Option ℕ
  pub key : List ℕ
  pub name : List ℕ
  pub is : item.Entry e first key name ≡ i

team_of_body : (e g : ℕ) (body : List ℕ) (i : Item) → team_read e g body ≡ Some i → HasTeam e g i
unfolding team_read
team_of_body e g body i is =
    let made = of_reader {A = List (ℕ × ℕ) × (ℕ × (ℕ × (ℕ × Chip)))} (λ x. item.Team e g x.0 x.1.0 x.1.1.0 x.1.1.1.0 x.1.1.1.1) _ i is in
    record {
      team = record { picks = made.0.0; captain = made.0.1.0; vice = made.0.1.1.0; bank = made.0.1.1.1.0; chip = made.0.1.1.1.1 };
      is = made.1;
    }

pub team_has : (m : Map) (e g : ℕ) (i : Item) → told m (slot.Team e g) ≡ Some i → HasTeam e g i
team_has m e g i is =
    let there = and_then_some (item_of (key_of (slot.Team e g))) (m (key_of (slot.Team e g))) i is in
    team_of_body e g there.0 i (if_some (is_id e && is_gameweek g) (team_read e g there.0) i there.2)

sale_of_body : (e g n : ℕ) (body : List ℕ) (i : Item) → transfer_in e g n body ≡ Some i → HasSale e g n i
unfolding transfer_in
sale_of_body e g n body i is =
    let made = of_reader {A = ℕ × (ℕ × (ℕ × ℕ))} (λ x. item.Transfer e g n x.0 x.1.0 x.1.1.0 x.1.1.1) _ i is in
    record { sale = record { out = made.0.0; into = made.0.1.0; sold = made.0.1.1.0; bought = made.0.1.1.1 }; is = made.1 }

pub sale_has : (m : Map) (e g n : ℕ) (i : Item) → told m (slot.Transfer e g n) ≡ Some i → HasSale e g n i
sale_has m e g n i is =
    let there = and_then_some (item_of (key_of (slot.Transfer e g n))) (m (key_of (slot.Transfer e g n))) i is in
    sale_of_body e g n there.0 i (if_some (is_id e && is_gameweek g) (transfer_in e g n there.0) i there.2)

entry_of_body : (e : ℕ) (body : List ℕ) (i : Item) → entry_in e body ≡ Some i → HasEntry e i
unfolding entry_in
entry_of_body e body i is =
    let made = of_reader {A = Option ℕ × (List ℕ × List ℕ)} (λ x. item.Entry e x.0 x.1.0 x.1.1) _ i is in
    record { first = made.0.0; key = made.0.1.0; name = made.0.1.1; is = made.1 }

pub entry_has : (m : Map) (e : ℕ) (i : Item) → told m (slot.Entry e) ≡ Some i → HasEntry e i
entry_has m e i is =
    let there = and_then_some (item_of (key_of (slot.Entry e))) (m (key_of (slot.Entry e))) i is in
    entry_of_body e there.0 i (if_some (is_id e) (entry_in e there.0) i there.2)

-- an entry's records

pub told_some : {A : Type 0} (f : Option Item → Option A) (o : Option Item) (x : A) → f None ≡ None → f o ≡ Some x → (i : Item) × (o ≡ Some i)
told_some f None x none e = absurd (some_not_none x (f None) e none)
  where
    some_not_none : {A : Type 0} (x : A) (o : Option A) → o ≡ Some x → o ≡ None → ⊥
    some_not_none x o some none = absurd (cc)
told_some f (Some i) x none e = (i, refl)

team_lawful : (rows : Rows) → judged rows ≡ None → (e g : ℕ) (t : RecordedTeam) → team_told (map_of rows) e g ≡ Some t
    → team_breaks (map_of rows) e g t.picks t.captain t.vice t.bank t.chip ≡ false
team_lawful rows lawful e g t found =
    let there = told_some team_in (told (map_of rows) (slot.Team e g)) t refl found in
    let has = team_has (map_of rows) e g there.0 there.1 in
    let same : has.team ≡ t = some_is has.team t (ap (λ i. team_in (Some i)) has.is ∙ sym (ap team_in there.1) ∙ found) in
    let right = ap (rules_broken rows) has.is ∙ nothing_broken rows lawful (slot.Team e g) there.0 there.1 in
    subst (λ u. team_breaks (map_of rows) e g u.picks u.captain u.vice u.bank u.chip ≡ false) same right

sale_lawful : (rows : Rows) → judged rows ≡ None → (e g n : ℕ) (s : Sale) → sale_told (map_of rows) e g n ≡ Some s
    → transfer_breaks (map_of rows) e g n s.out s.into s.sold s.bought ≡ false
sale_lawful rows lawful e g n s found =
    let there = told_some sale_in (told (map_of rows) (slot.Transfer e g n)) s refl found in
    let has = sale_has (map_of rows) e g n there.0 there.1 in
    let same : has.sale ≡ s = some_is has.sale s (ap (λ i. sale_in (Some i)) has.is ∙ sym (ap sale_in there.1) ∙ found) in
    let right = ap (rules_broken rows) has.is ∙ nothing_broken rows lawful (slot.Transfer e g n) there.0 there.1 in
    subst (λ u. transfer_breaks (map_of rows) e g n u.out u.into u.sold u.bought ≡ false) same right

entry_lawful : (rows : Rows) → judged rows ≡ None → (e : ℕ) → entry_breaks (map_of rows) e (first_told (map_of rows) e) ≡ false
entry_lawful rows lawful e = by (told (map_of rows) (slot.Entry e)) refl
  where
    by : (o : Option Item) → told (map_of rows) (slot.Entry e) ≡ o → entry_breaks (map_of rows) e (first_in (told (map_of rows) (slot.Entry e))) ≡ false
    by None is = ap (λ o. entry_breaks (map_of rows) e (first_in o)) is
    by (Some i) is =
        let has = entry_has (map_of rows) e i is in
        let right : issue_breaks rows e has.first has.key ≡ false = ap (rules_broken rows) has.is ∙ nothing_broken rows lawful (slot.Entry e) i is in
        let three = (or_parts _ _ right).0 in
        let own : entry_breaks (map_of rows) e has.first ≡ false = (or_parts _ _ three).1 in
        let first : first_in (told (map_of rows) (slot.Entry e)) ≡ has.first = ap first_in is ∙ sym (ap (λ j. first_in (Some j)) has.is) in
        ap (entry_breaks (map_of rows) e) first ∙ own

-- an entry's records in a store in which nothing is found wrong
pub judged_lawful : (rows : Rows) → judged rows ≡ None → (e : ℕ) → IsLawfulEntry (map_of rows) e
judged_lawful rows lawful e = record {
  entry = entry_lawful rows lawful e;
  teams = team_lawful rows lawful e;
  sales = sale_lawful rows lawful e;
}

pub judged_restored : JudgedEntriesAreRestored
judged_restored rows e teams sales lawful = lawful_restored (map_of rows) e teams sales (judged_lawful rows lawful e)
