-- The records of a league's members, one by one.
use Rattle.std.proofs.Common.{◌≡◌, ◌<◌, ◌≤◌, ◌∙◌, ℕ, suc, Bool, true, false, ◌&&◌, ◌||◌, ◌==◌, cond, List, [], ◌∷◌, length, get_or, filter, Option, Some, None, if◌then◌else◌, refl, sym, ap, ap₂, subst, inl, inr, arith}
use Rattle.std.specs.List.{AllPairs, list_any}
use Rattle.std.specs.Option.{is_some, option_and_then}
use Rattle.std.proofs.lemmas.Bool.{and_parts, cases_Bool, eqb-true, true≢false}
use Rattle.std.proofs.lemmas.Bool.Decides.{nat_tests}
use Rattle.std.proofs.lemmas.List.{get_or-map, get_or_default, length-map}
use Rattle.std.proofs.lemmas.List.Folds.{list_any_at}
use Rattle.fpl_base.specs.Keeping.{KeysRise, map_of, precedes}
use Rattle.fpl_base.specs.declared.records.RecordKey.{RecordKey as Key}
use Rattle.record_fields.specs.Ranges.{is_id}
use Rattle.record_fields.specs.Reading.{nothing_at, whole_of}
use Rattle.season_records.specs.ItemReading.{item_in, item_of, member_in}
use Rattle.season_records.specs.Keys.{key_of}
use Rattle.season_records.specs.declared.item.Item.{Item}
use Rattle.season_records.specs.declared.item.Item.TheVariants as item
use Rattle.season_records.specs.declared.slot.Slot.{Slot}
use Rattle.season_records.specs.declared.slot.Slot.TheVariants as slot
use Rattle.stored_records.specs.Stored.{Rows, is_member_of, is_there, told}
use Rattle.stored_records.proofs.Loops.{any_mapped}
use Rattle.store_validation.specs.Lawful.{judged, rules_broken}
use Rattle.store_validation.specs.LeagueRules.{member_breaks, members_of}
use Rattle.season_restoring.proofs.KeptRows.{map_kept, rise_kept, row_found, row_kept}
use Rattle.season_restoring.proofs.LawfulRows.{from_one, if_true, lawful_row, of_reader, some_there}
use Rattle.season_restoring.proofs.Gapless.{place_in}

of_kind_10 : (s : Slot) → (key_of s).kind ≡ 10 → (l : ℕ) × (e : ℕ) × (s ≡ slot.Member l e)
of_kind_10 slot.Season e = absurd (omega (arith, e))
of_kind_10 (slot.Club c) e = absurd (omega (arith, e))
of_kind_10 (slot.Player p) e = absurd (omega (arith, e))
of_kind_10 (slot.Fixture f) e = absurd (omega (arith, e))
of_kind_10 (slot.Line f p) e = absurd (omega (arith, e))
of_kind_10 (slot.Entry n) e = absurd (omega (arith, e))
of_kind_10 (slot.Team n g) e = absurd (omega (arith, e))
of_kind_10 (slot.Transfer n g m) e = absurd (omega (arith, e))
of_kind_10 (slot.League l) e = absurd (omega (arith, e))
of_kind_10 (slot.Member l n) e = (l, n, refl)
of_kind_10 (slot.Cup c) e = absurd (omega (arith, e))
of_kind_10 (slot.Last c) e = absurd (omega (arith, e))

member_of_body : (l e : ℕ) (body : List ℕ) (i : Item) → member_in l e body ≡ Some i → item.Member l e ≡ i
unfolding member_in
member_of_body l e body i is = (of_reader {A = Unit {0}} (λ x. item.Member l e) (whole_of nothing_at body) i is).1

-- a lawful record of a member of a league
pub record IsMemberRow (rows : Rows) (l : ℕ) (k : Key) (body : List ℕ) : Type 0 where
  pub key_is : k ≡ key_of (slot.Member l k.b)
  pub there : map_of rows k ≡ Some body
  pub tells : told (map_of rows) (slot.Member l k.b) ≡ Some (item.Member l k.b)
  pub right : member_breaks rows l k.b ≡ false
  pub one_up : 1 ≤ k.b

member_row : (rows : Rows) → judged rows ≡ None → (l : ℕ) (k : Key) (body : List ℕ) → map_of rows k ≡ Some body → k.kind ≡ 10 → k.a ≡ l → IsMemberRow rows l k body
member_row rows lawful l k body there kind league =
    let row = lawful_row rows lawful k body there in
    let own = of_kind_10 row.of_slot (sym (ap (λ (x : Key). x.kind) row.named) ∙ kind) in
    let key_so : k ≡ key_of (slot.Member own.0 own.1) = row.named ∙ ap key_of own.2 in
    let l_is : own.0 ≡ l = sym (ap (λ (x : Key). x.a) key_so) ∙ league in
    let e_is : own.1 ≡ k.b = sym (ap (λ (x : Key). x.b) key_so) in
    let slot_is : row.of_slot ≡ slot.Member l k.b = own.2 ∙ ap₂ slot.Member l_is e_is in
    let key_is : k ≡ key_of (slot.Member l k.b) = row.named ∙ ap key_of slot_is in
    let read = if_true (is_id l && is_id k.b) (member_in l k.b body) row.tells (sym (ap (λ s. item_in s body) slot_is) ∙ row.read) in
    let same : item.Member l k.b ≡ row.tells = member_of_body l k.b body row.tells read.1 in
    record {
      key_is = key_is;
      there = there;
      tells = ap (λ x. option_and_then (item_of x) (map_of rows x)) (sym key_is) ∙ (ap (option_and_then (item_of k)) there ∙ (row.is ∙ ap Some (sym same)));
      right = ap (rules_broken rows) same ∙ row.unbroken;
      one_up = from_one k.b (and_parts (is_id l) (is_id k.b) read.0).1;
    }

-- what passes a test among some stands at a place
any_place : {X : Type 0} (p : X → Bool) (xs : List X) → list_any p xs ≡ true → (x : X) × (i : ℕ) × (i < length xs) × (x ≡ get_or xs i x) × (p x ≡ true)
any_place p [] e = absurd (true≢false (sym e))
any_place p (x ∷ xs) e = elim (cases_Bool (p x)) [
  | inl so ↦ (x, 0, omega arith, refl, so)
  | inr away ↦ let rest = any_place p xs (sym (ap (λ b. b || list_any p xs) away) ∙ e) in (rest.0, suc rest.1, omega (arith, rest.2), rest.3, rest.4)
]

-- a key is one of a member of a league
abbrev pub of_league : ℕ → Key → Bool
of_league l k = k.kind == 10 && k.a == l

is_of_league : (l e : ℕ) → of_league l (key_of (slot.Member l e)) ≡ true
is_of_league l e = grind (arith, nat_tests)

after_member : (l a b : ℕ) → precedes (key_of (slot.Member l a)) (key_of (slot.Member l b)) ≡ true → a < b
after_member l a b p = grind (arith, nat_tests, p)

module _ (rows : Rows) (rise : KeysRise rows) (lawful : judged rows ≡ None) (l : ℕ) where
  abbrev pub part : Rows
  part = filter (is_member_of l) rows

  abbrev any_row : Key × List ℕ
  any_row = (key_of slot.Season, [])

  pub at_place : (i : ℕ) (row : Key × List ℕ) → i < length part → row ≡ get_or part i row → IsMemberRow rows l row.0 row.1
  at_place i row lt at =
      let kept : of_league l row.0 ≡ true = row_kept (of_league l) part i row rows refl lt at in
      let both = and_parts (row.0.kind == 10) (row.0.a == l) kept in
      member_row rows lawful l row.0 row.1 (row_found (of_league l) part i row rows rise refl lt at) (eqb-true row.0.kind 10 both.0) (eqb-true row.0.a l both.1)

  pub of_place : (i : ℕ) (d : Key × List ℕ) → i < length part → IsMemberRow rows l (get_or part i d).0 (get_or part i d).1
  of_place i d lt = at_place i (get_or part i d) lt (get_or_default part i d (get_or part i d) lt)

  -- the record of a member stands among them
  pub place_of : (e : ℕ) → is_there (map_of rows) (slot.Member l e) ≡ true → (j : ℕ) × (j < length part) × ((d : Key × List ℕ) → (get_or part j d).0 ≡ key_of (slot.Member l e))
  place_of e there =
      let body = some_there (map_of rows (key_of (slot.Member l e))) there in
      place_in part (key_of (slot.Member l e)) body.0 (map_kept (of_league l) rows (key_of (slot.Member l e)) (is_of_league l e) ∙ body.1)

  pub some_members : (e : ℕ) → is_there (map_of rows) (slot.Member l e) ≡ true → 1 ≤ length (members_of rows l)
  some_members e there =
      let place = place_of e there in
      omega (arith, place.1, length-map part (λ row. row.0.b))

  among : (e : ℕ) → is_there (map_of rows) (slot.Member l e) ≡ true → list_any (λ m. m == e) (members_of rows l) ≡ true
  among e there =
      let place = place_of e there in
      any_mapped (λ m. m == e) (λ row. row.0.b) part
      ∙ list_any_at (λ row. row.0.b == e) part place.0 any_row place.1 (ap (λ (k : Key). k.b == e) (place.2 any_row) ∙ itself e)
    where
      itself : (n : ℕ) → (n == n) ≡ true
      itself n = grind (arith, nat_tests)

  pub member_is : (e : ℕ) → (if list_any (λ m. m == e) (members_of rows l) then Some (item.Member l e) else None) ≡ told (map_of rows) (slot.Member l e)
  member_is e = elim (cases_Bool (list_any (λ m. m == e) (members_of rows l))) [
    | inl so ↦
        let found = any_place (λ row. row.0.b == e) part (sym (any_mapped (λ m. m == e) (λ row. row.0.b) part) ∙ so) in
        let own = at_place found.1 found.0 found.2 found.3 in
        let told_so : told (map_of rows) (slot.Member l e) ≡ Some (item.Member l e)
        = subst (λ n. told (map_of rows) (slot.Member l n) ≡ Some (item.Member l n)) (eqb-true found.0.0.b e found.4) own.tells in
        ap (λ b. cond b (Some (item.Member l e)) None) so ∙ sym told_so
    | inr away ↦ ap (λ b. cond b (Some (item.Member l e)) None) away ∙ sym (untold away (map_of rows (key_of (slot.Member l e))) refl)
  ]
    where
      untold : list_any (λ m. m == e) (members_of rows l) ≡ false → (o : Option (List ℕ)) → map_of rows (key_of (slot.Member l e)) ≡ o → told (map_of rows) (slot.Member l e) ≡ None
      untold away None is = ap (option_and_then (item_of (key_of (slot.Member l e)))) is
      untold away (Some body) is = absurd (true≢false (sym (among e (ap is_some is)) ∙ away))

  pub members_rise : AllPairs (λ a b. a < b) (members_of rows l)
  members_rise i j d lt within =
      let short : j < length part = omega (arith, within, length-map part (λ row. row.0.b)) in
      let low = of_place i any_row (omega (arith, lt, short)) in
      let high = of_place j any_row short in
      let up : precedes (get_or part i any_row).0 (get_or part j any_row).0 ≡ true = rise_kept (of_league l) rows rise i j any_row lt short in
      let less : (get_or part i any_row).0.b < (get_or part j any_row).0.b
      = after_member l (get_or part i any_row).0.b (get_or part j any_row).0.b
      (sym (ap (λ k. precedes k (key_of (slot.Member l (get_or part j any_row).0.b))) low.key_is) ∙ (sym (ap (precedes (get_or part i any_row).0) high.key_is) ∙ up)) in
      omega (arith, less, get_or-map (λ row. row.0.b) part i any_row d (omega (arith, lt, short)), get_or-map (λ row. row.0.b) part j any_row d short)

  -- each member's record is lawful
  pub each_member : (i : ℕ) (d : ℕ) → i < length (members_of rows l) → (body : List ℕ) × IsMemberRow rows l (key_of (slot.Member l (get_or (members_of rows l) i d))) body
  each_member i d lt =
      let short : i < length part = omega (arith, lt, length-map part (λ row. row.0.b)) in
      let own = of_place i any_row short in
      let same : (get_or part i any_row).0.b ≡ get_or (members_of rows l) i d = sym (get_or-map (λ row. row.0.b) part i any_row d short) in
      let key_so : (get_or part i any_row).0 ≡ key_of (slot.Member l (get_or (members_of rows l) i d)) = own.key_is ∙ ap (λ n. key_of (slot.Member l n)) same in
      ((get_or part i any_row).1, subst (λ k. IsMemberRow rows l k (get_or part i any_row).1) key_so own)
