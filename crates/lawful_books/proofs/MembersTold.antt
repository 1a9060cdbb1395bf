-- The members of a league as its records tell them, and how many leagues of smaller ids an entry is in.
use Rattle.std.proofs.Common.{◌≡◌, ◌<◌, ◌≤◌, ◌+◌, ◌==◌, ◌&&◌, ◌||◌, ℕ, zero, suc, Bool, true, false, cond, List, [], ◌∷◌, Some, None, All, AllPairs, IsTrue, filter, map, get_or, slice_get, arith, refl, sym, ap, ◌∙◌, inl, inr, if◌then◌else◌}
use Rattle.std.specs.Prelude.{is_some}
use Rattle.std.specs.List.{AllByRecursion as Each, count_by, list_any, range_with_len}
use Rattle.std.specs.Option.{option_and_then, option_map_or}
use Rattle.std.proofs.lemmas.Bool.{cases_Bool}
use Rattle.std.proofs.lemmas.Bool.Decides.{nat_tests}
use Rattle.std.proofs.lemmas.List.Elements.{All-head, All-tail}
use Rattle.std.proofs.lemmas.List.Sums.{sum_by-cons}
use Rattle.fpl_base.specs.declared.records.RecordKey.{RecordKey as Key}
use Rattle.fpl_base.specs.Keeping.{KeysRise, Map, is_same_key, map_of, precedes}
use Rattle.fpl_base.proofs.Around.{AllPairs-head, AllPairs-tail}
use Rattle.rule_book.specs.Entries.{entry_in}
use Rattle.rule_book.specs.LeagueCalls.{is_member}
use Rattle.rule_book.specs.Leagues.{LeagueFacts}
use Rattle.season_book.specs.Book.{Book}
use Rattle.season_records.specs.Keys.{key, key_of}
use Rattle.season_records.specs.declared.item.Item.TheVariants as item
use Rattle.season_records.specs.declared.slot.Slot.{Slot}
use Rattle.season_records.specs.declared.slot.Slot.TheVariants as slot
use Rattle.season_records.specs.Records.{member_told, records}
use Rattle.season_records.proofs.Determined.{Rise, members_determined}
use Rattle.season_records.proofs.Orders.{pairs_of}
use Rattle.stored_records.specs.Stored.{Rows, is_member_of, is_there}
use Rattle.stored_records.proofs.Found.{found_at}
use Rattle.stored_records.proofs.Loops.{any_kept, any_mapped, any_same}
use Rattle.store_validation.specs.LeagueRules.{members_of}
use Rattle.lawful_books.proofs.Telling.{of_record, records_are_there}

-- Members.

-- the key of a member has no other part
ends : (s : Slot) (l : ℕ) → ((key_of s).kind == 10 && (key_of s).a == l) ≡ true → (key_of s).c ≡ 0
ends (slot.Member k e) l is = refl
ends (slot.Transfer e g n) l is = absurd cc
ends s l is = refl

found_any : (rows : Rows) (k : Key) → is_some (map_of rows k) ≡ list_any (λ row. is_same_key row.0 k) rows
found_any [] k = refl
found_any (row ∷ rows) k = elim (is_same_key row.0 k) as (λ b. is_some (cond b (Some row.1) (map_of rows k)) ≡ (b || list_any (λ row. is_same_key row.0 k) rows)) [
  | true ↦ refl
  | false ↦ found_any rows k
]

-- a row of a league's members ends so
abbrev EndsSo : ℕ → Key × List ℕ → Type 0
EndsSo l row = is_member_of l row ≡ true → row.0.c ≡ 0

later : (x y : Key) (l : ℕ) → (x.kind == 10 && x.a == l) ≡ true → (y.kind == 10 && y.a == l) ≡ true → x.c ≡ 0 → y.c ≡ 0 → precedes x y ≡ true → x.b < y.b
later x y l p q r s before = grind (arith, nat_tests, p, q, r, s, before)

all_later : (l : ℕ) (row : Key × List ℕ) (rows : Rows) → is_member_of l row ≡ true → EndsSo l row → All (λ y. IsTrue (precedes row.0 y.0)) rows → All (EndsSo l) rows
    → Each (λ y. row.0.b < y.0.b) (filter (is_member_of l) rows)
all_later l row [] is so above end = tt
all_later l row (y ∷ rows) is so above end =
    let more = all_later l row rows is so (All-tail (λ y. IsTrue (precedes row.0 y.0)) y rows above) (All-tail (EndsSo l) y rows end) in
    elim (is_member_of l y) as (λ b. is_member_of l y ≡ b → Each (λ y. row.0.b < y.0.b) (cond b (y ∷ filter (is_member_of l) rows) (filter (is_member_of l) rows))) [
      | true ↦ λ also. (later row.0 y.0 l is also (so is) (All-head (EndsSo l) y rows end also) (All-head (λ y. IsTrue (precedes row.0 y.0)) y rows above), more)
      | false ↦ λ other. more
    ] refl

rise_members : (l : ℕ) (rows : Rows) → KeysRise rows → All (EndsSo l) rows → Rise (λ row. row.0.b) (filter (is_member_of l) rows)
rise_members l [] rise end = tt
rise_members l (row ∷ rows) rise end =
    let more = rise_members l rows (AllPairs-tail (λ x y. IsTrue (precedes x.0 y.0)) row rows rise) (All-tail (EndsSo l) row rows end) in
    elim (is_member_of l row) as (λ b. is_member_of l row ≡ b → Rise (λ row. row.0.b) (cond b (row ∷ filter (is_member_of l) rows) (filter (is_member_of l) rows))) [
      | true ↦ λ is. (all_later l row rows is (All-head (EndsSo l) row rows end) (AllPairs-head (λ x y. IsTrue (precedes x.0 y.0)) row rows rise) (All-tail (EndsSo l) row rows end), more)
      | false ↦ λ other. more
    ] refl

rise_numbers : (rows : Rows) → Rise (λ row. row.0.b) rows → Rise (λ m. m) (map (λ row. row.0.b) rows)
rise_numbers [] up = tt
rise_numbers (row ∷ rows) up = (each row.0.b rows up.0, rise_numbers rows up.1)
  where
    each : (k : ℕ) (rows : Rows) → Each (λ y. k < y.0.b) rows → Each (λ m. k < m) (map (λ row. row.0.b) rows)
    each k [] all = tt
    each k (y ∷ rows) all = (all.0, each k rows all.1)

module _ (book : Book) (rows : Rows) (rise : KeysRise rows) (same : map_of rows ≡ records book) (l : ℕ) (league : LeagueFacts) (at : entry_in book.leagues l ≡ Some league) where
  all_end : All (EndsSo l) rows
  all_end k d lt is =
      let row : Key × List ℕ = get_or rows k d in
      let of = of_record book row.0 row.1 (sym (ap (λ (m : Map). m row.0) same) ∙ found_at rows k d rise lt) in
      ap (λ (k : Key). k.c) of.1 ∙ ends of.0 l (sym (ap (λ (k : Key). k.kind == 10 && k.a == l) of.1) ∙ is)

  among : (q : ℕ) → list_any (λ m. m == q) (members_of rows l) ≡ is_member league q
  among q =
      any_mapped (λ m. m == q) (λ row. row.0.b) (filter (is_member_of l) rows)
      ∙ any_kept (λ row. row.0.b == q) (is_member_of l) rows
      ∙ sym (any_same (λ row. is_same_key row.0 (key 10 l q 0)) (λ row. is_member_of l row && row.0.b == q) rows (λ k d lt. one (get_or rows k d).0 (all_end k d lt)))
      ∙ sym (found_any rows (key 10 l q 0))
      ∙ ap (λ (m : Map). is_there m (slot.Member l q)) same
      ∙ records_are_there book (slot.Member l q)
      ∙ ap (λ o. is_some (option_and_then (member_told l q) o)) at
      ∙ told_member (is_member league q)
    where
      one : (k : Key) → ((k.kind == 10 && k.a == l) ≡ true → k.c ≡ 0) → is_same_key k (key 10 l q 0) ≡ ((k.kind == 10 && k.a == l) && k.b == q)
      one k so = elim (cases_Bool (k.kind == 10 && k.a == l)) [
        | inl is ↦ let zero : k.c ≡ 0 = so is in grind (arith, nat_tests, is, zero)
        | inr other ↦ grind (arith, nat_tests, other)
      ]

      told_member : (b : Bool) → is_some (if b then Some (item.Member l q) else None) ≡ b
      told_member true = refl
      told_member false = refl

  pub members_same : AllPairs (λ m n. m < n) league.members → members_of rows l ≡ league.members
  members_same up =
      members_determined (members_of rows l) league.members
      (pairs_of (λ m. m) (members_of rows l) (rise_numbers (filter (is_member_of l) rows) (rise_members l rows rise all_end))) up among

-- Leagues of an entry.

as_many : (b c : Bool) → b ≡ c → cond {A = ℕ} b 1 0 ≡ cond c 1 0
as_many b c same = ap (λ b. cond {A = ℕ} b 1 0) same

module _ {X : Type 0} (p : X → Bool) where
  -- of the numbers from one on no more pass than of what they number
  pub count_numbers : (xs : List X) (f : ℕ → Bool) (a n : ℕ) → ((m : ℕ) → f (a + m) ≡ option_map_or p (slice_get xs m) false) → count_by f (range_with_len a n) ≤ count_by p xs
  count_numbers xs f a zero same = omega arith
  count_numbers [] f a (suc n) same =
      let none : f a ≡ false = ap f (omega arith) ∙ same 0 in
      omega (arith, sum_by-cons (λ x. cond (f x) 1 0) a (range_with_len (a + 1) n), as_many (f a) false none, count_numbers [] f (a + 1) n (λ m. ap f (omega arith) ∙ same (suc m)))
  count_numbers (x ∷ xs) f a (suc n) same =
      let first : f a ≡ p x = ap f (omega arith) ∙ same 0 in
      omega (
        arith,
        sum_by-cons (λ x. cond (f x) 1 0) a (range_with_len (a + 1) n),
        sum_by-cons (λ x. cond (p x) 1 0) x xs,
        as_many (f a) (p x) first,
        count_numbers xs f (a + 1) n (λ m. ap f (omega arith) ∙ same (suc m)),
      )
