-- What is known of each of the records that are lawful.
use Rattle.std.proofs.Common.{◌≡◌, ◌<◌, ◌≤◌, ◌⊎◌, ⊎_elim, inl, inr, ℕ, zero, suc, Bool, true, false, not, cond, List, [], ◌∷◌, find, length, get_or, Option, Some, None, arith, refl, sym, ap, subst, ◌∙◌}
use Rattle.std.specs.List.{AllByRecursion as Each}
use Rattle.std.specs.Option.{is_some, option_and_then, option_map, option_map_or, option_or}
use Rattle.std.proofs.lemmas.Bool.{not-false, or_parts, true≢false}
use Rattle.std.proofs.lemmas.Bool.Decides.{nat_tests}
use Rattle.std.proofs.lemmas.Option.{none-some}
use Rattle.fpl_base.specs.Keeping.{KeysRise, is_same_key, map_of, precedes}
use Rattle.fpl_base.specs.declared.kinds.Profile.{Profile}
use Rattle.fpl_base.specs.declared.records.RecordKey.{RecordKey}
use Rattle.season_records.specs.ItemReading.{item_of}
use Rattle.season_records.specs.Items.{key_of_item, slot_of_item}
use Rattle.season_records.specs.Keys.{key_of}
use Rattle.season_records.specs.declared.item.Item.{Item}
use Rattle.season_records.specs.declared.item.Item.TheVariants as item
use Rattle.season_records.specs.declared.slot.Slot.{Slot}
use Rattle.season_records.specs.declared.slot.Slot.TheVariants as slot
use Rattle.stored_records.specs.SeasonRules.{misses}
use Rattle.stored_records.specs.Stored.{Rows, is_there, told}
use Rattle.store_validation.specs.Lawful.{breaks, first_not_spelled, first_wrong, is_in_range, is_spelled, is_wrong, judged, rules_broken}
use Rattle.season_restoring.proofs.Rows.{IsSpelled, Rise, Row, earlier_apart, own_same, rise_of, same_key}
use Rattle.season_restoring.proofs.Slots.{HasIds, own_ids, own_key}

-- a record that is lawful among others
pub record IsSound (all : Rows) (row : Row) : Type 0 where
  pub item : Item
  pub is : item_of row.0 row.1 ≡ Some item
  pub there : told (map_of all) (slot_of_item item) ≡ Some item
  pub in_range : is_in_range item ≡ true
  pub season : misses (map_of all) slot.Season ≡ false
  pub right : rules_broken all item ≡ false
  pub ids : HasIds (slot_of_item item)

-- Where nothing is found, each fails the test.

found_none : (b : Bool) (row : Row) (o : Option Row) → cond b (Some row) o ≡ None → (b ≡ false) × (o ≡ None)
found_none true row o e = absurd (none-some row (sym e))
found_none false row o e = (refl, e)

each_fails : (test : Row → Bool) (rows : Rows) → find test rows ≡ None → Each (λ row. test row ≡ false) rows
each_fails test [] none = tt
each_fails test (row ∷ rows) none = let split = found_none (test row) row (find test rows) none in (split.0, each_fails test rows split.1)

neither : (o p : Option RecordKey) → option_or o p ≡ None → (o ≡ None) × (p ≡ None)
neither None p e = (refl, e)
neither (Some k) p e = absurd (none-some k (sym e))

none_mapped : (o : Option Row) → option_map (λ row. row.0) o ≡ None → o ≡ None
none_mapped None e = refl
none_mapped (Some row) e = absurd (none-some row.0 (sym e))

-- Each record is found by its key.

found_behind : (first : Row) (rows some : Rows) → Each (λ r. precedes first.0 r.0 ≡ true) some → Each (λ row. map_of rows row.0 ≡ Some row.1) some → Each (λ row. map_of (first ∷ rows) row.0 ≡ Some row.1) some
found_behind first rows [] above each = tt
found_behind first rows (row ∷ some) above each = (
  ap (λ b. cond b (Some first.1) (map_of rows row.0)) (earlier_apart first.0 row.0 above.0) ∙ each.0,
  found_behind first rows some above.1 each.1,
)

each_found : (rows : Rows) → Rise rows → Each (λ row. map_of rows row.0 ≡ Some row.1) rows
each_found [] up = tt
each_found (row ∷ rows) up = (
  ap (λ b. cond b (Some row.1) (map_of rows row.0)) (own_same row.0),
  found_behind row rows rows up.0 (each_found rows up.1),
)

-- All together.

spelled_as : (o : Option Item) → option_map_or is_in_range o false ≡ true → (i : Item) × (o ≡ Some i) × (is_in_range i ≡ true)
spelled_as None e = absurd (true≢false (sym e))
spelled_as (Some i) e = (i, refl, e)

sound : (all : Rows) (row : Row) → not (is_spelled row) ≡ false → is_wrong all row ≡ false → map_of all row.0 ≡ Some row.1 → IsSound all row
sound all row spelled right found =
    let spell = spelled_as (item_of row.0 row.1) (not-false (is_spelled row) spelled) in
    let own = own_key row.0 row.1 spell.0 spell.1 in
    let parts = or_parts (misses (map_of all) slot.Season) (rules_broken all spell.0) (sym (ap (λ o. option_map_or (breaks all) o false) spell.1) ∙ right) in
    record {
      item = spell.0;
      is = spell.1;
      there = ap (λ k. option_and_then (item_of k) (map_of all k)) (sym own) ∙ (ap (option_and_then (item_of row.0)) found ∙ spell.1);
      in_range = spell.2;
      season = parts.0;
      right = parts.1;
      ids = own_ids row.0 row.1 spell.0 spell.1;
    }

all_sound : (all rows : Rows) → Each (λ row. not (is_spelled row) ≡ false) rows → Each (λ row. is_wrong all row ≡ false) rows → Each (λ row. map_of all row.0 ≡ Some row.1) rows → Each (IsSound all) rows
all_sound all [] spelled right found = tt
all_sound all (row ∷ rows) spelled right found = (sound all row spelled.0 right.0 found.0, all_sound all rows spelled.1 right.1 found.1)

pub sounds : (rows : Rows) → KeysRise rows → judged rows ≡ None → Each (IsSound rows) rows
sounds rows up lawful =
    let both = neither (first_not_spelled rows) (first_wrong rows) lawful in
    all_sound rows rows
    (each_fails (λ row. not (is_spelled row)) rows (none_mapped (find (λ row. not (is_spelled row)) rows) both.0))
    (each_fails (is_wrong rows) rows (none_mapped (find (is_wrong rows) rows) both.1))
    (each_found rows (rise_of rows up))

pub all_spelled : (all rows : Rows) → Each (IsSound all) rows → Each IsSpelled rows
all_spelled all [] each = tt
all_spelled all (row ∷ rows) each = (record { told = each.0.item; is = each.0.is }, all_spelled all rows each.1)

-- the one at a place
pub sound_at : (all rows : Rows) (n : ℕ) (row : Row) → Each (IsSound all) rows → n < length rows → row ≡ get_or rows n row → IsSound all row
sound_at all rows n row each lt is = subst (IsSound all) (sym is) (at rows n each lt)
  where
    at : (rows : Rows) (n : ℕ) → Each (IsSound all) rows → n < length rows → IsSound all (get_or rows n row)
    at [] n each lt = absurd (omega (arith, lt))
    at (r ∷ rows) zero each lt = each.0
    at (r ∷ rows) (suc n) each lt = at rows n each.1 (omega (arith, lt))

-- what has a record is told
pub told_there : (rows : Rows) (s : Slot) → Each IsSpelled rows → is_there (map_of rows) s ≡ true → is_some (told (map_of rows) s) ≡ true
told_there [] s each there = there
told_there (row ∷ rows) s each there = by (is_same_key row.0 (key_of s)) refl (told_there rows s each.1)
  where
    by : (b : Bool) → is_same_key row.0 (key_of s) ≡ b → (is_there (map_of rows) s ≡ true → is_some (told (map_of rows) s) ≡ true) → is_some (told (map_of (row ∷ rows)) s) ≡ true
    by true same rest =
        let key : row.0 ≡ key_of s = same_key row.0 (key_of s) same in
        ap (λ b. is_some (option_and_then (item_of (key_of s)) (cond b (Some row.1) (map_of rows (key_of s))))) same
        ∙ ap is_some (ap (λ k. item_of k row.1) (sym key) ∙ each.0.is)
    by false apart rest =
        let more : map_of (row ∷ rows) (key_of s) ≡ map_of rows (key_of s) = ap (λ b. cond b (Some row.1) (map_of rows (key_of s))) apart in
        ap (λ o. is_some (option_and_then (item_of (key_of s)) o)) more ∙ rest (sym (ap is_some more) ∙ there)

-- The first record.

-- a key of another kind than the season's: no later one is the season's either
no_season : (k : RecordKey) (rows : Rows) → 2 ≤ k.kind → Each (λ r. precedes k r.0 ≡ true) rows → map_of rows (key_of slot.Season) ≡ None
no_season k [] kind above = refl
no_season k (row ∷ rows) kind above =
    let apart : is_same_key row.0 (key_of slot.Season) ≡ false = grind (arith, nat_tests, kind, above.0) in
    ap (λ b. cond b (Some row.1) (map_of rows (key_of slot.Season))) apart ∙ no_season k rows kind above.1

kind_of : (s : Slot) → (s ≡ slot.Season) ⊎ (2 ≤ (key_of s).kind)
kind_of slot.Season = inl refl
kind_of (slot.Club c) = inr (omega arith)
kind_of (slot.Player p) = inr (omega arith)
kind_of (slot.Fixture f) = inr (omega arith)
kind_of (slot.Line f p) = inr (omega arith)
kind_of (slot.Entry e) = inr (omega arith)
kind_of (slot.Team e g) = inr (omega arith)
kind_of (slot.Transfer e g n) = inr (omega arith)
kind_of (slot.League l) = inr (omega arith)
kind_of (slot.Member l e) = inr (omega arith)
kind_of (slot.Cup c) = inr (omega arith)
kind_of (slot.Last c) = inr (omega arith)

-- the first record is the season's
pub first_is_season : (first : Row) (rows : Rows) → Rise (first ∷ rows) → (s : IsSound (first ∷ rows) first) → slot_of_item s.item ≡ slot.Season
first_is_season first rows up s = ⊎_elim (λ is. is) (λ kind. absurd (never kind)) (kind_of (slot_of_item s.item))
  where
    never : 2 ≤ (key_of_item s.item).kind → ⊥
    never kind =
        let own : first.0 ≡ key_of_item s.item = own_key first.0 first.1 s.item s.is in
        let high : 2 ≤ first.0.kind = subst (λ (k : RecordKey). 2 ≤ k.kind) (sym own) kind in
        let apart : is_same_key first.0 (key_of slot.Season) ≡ false = grind (arith, nat_tests, high) in
        let none : map_of (first ∷ rows) (key_of slot.Season) ≡ None
        = ap (λ b. cond b (Some first.1) (map_of rows (key_of slot.Season))) apart ∙ no_season first.0 rows high up.0 in
        true≢false (sym (ap (λ o. not (is_some o)) none) ∙ s.season)

-- an item of the season's slot is a season
pub record HasSeason (i : Item) : Type 0 where
  pub profile : Profile
  pub split : ℕ
  pub locked : ℕ
  pub deadlines : List ℕ
  pub is : i ≡ item.Season profile split locked deadlines

another_kind : (s : Slot) → s ≡ slot.Season → (key_of s).kind ≡ 1
another_kind s is = ap (λ s. (key_of s).kind) is

pub season_of : (i : Item) → slot_of_item i ≡ slot.Season → HasSeason i
season_of (item.Season profile split locked deadlines) is = record { profile = profile; split = split; locked = locked; deadlines = deadlines; is = refl }
season_of (item.Club c name) is = absurd (omega (arith, another_kind _ is))
season_of (item.Player p position club price gone name) is = absurd (omega (arith, another_kind _ is))
season_of (item.Fixture f home away g kickoff finished) is = absurd (omega (arith, another_kind _ is))
season_of (item.Line f p line) is = absurd (omega (arith, another_kind _ is))
season_of (item.Entry e first key name) is = absurd (omega (arith, another_kind _ is))
season_of (item.Team e g picks captain vice bank chip) is = absurd (omega (arith, another_kind _ is))
season_of (item.Transfer e g n out into sold bought) is = absurd (omega (arith, another_kind _ is))
season_of (item.League l kind start creator order code name) is = absurd (omega (arith, another_kind _ is))
season_of (item.Member l e) is = absurd (omega (arith, another_kind _ is))
season_of (item.Cup c start slots coins) is = absurd (omega (arith, another_kind _ is))
season_of (item.Last c n status made command) is = absurd (omega (arith, another_kind _ is))
