-- Where a search by id ends, and what it finds.
use Rattle.std.proofs.Common.{◌≡◌, ◌∙◌, sym, ap, subst, refl, ℕ, ◌+◌, ◌<◌, ◌≤◌, Bool, true, false, cond, eqb, ◌||◌, List, [], ◌∷◌, ◌++◌, length, get_or, set, take, drop, map, find, Option, Some, None, Result, Ok, Err, IfOk, IfErr, arith, inl, inr}
use Rattle.std.specs.List.{All, AllPairs, HoldsAt, list_any}
use Rattle.std.specs.List.Sorted.{IsSearchInRange, IsBinarySearchResult, IsNonDecreasingBy}
use Rattle.std.specs.Ordering.{nat_cmp, ordering_index}
use Rattle.std.proofs.lemmas.Cmp.{ranked}
use Rattle.std.proofs.lemmas.List.{take-append-drop, map-append}
use Rattle.std.proofs.lemmas.List.Elements.{All-head, All-tail, All-append, All-weaker}
use Rattle.std.proofs.lemmas.Bool.{cases_eq, eq-eqb, ne_eqb}
use Rattle.std.proofs.lemmas.Bool.Decides.{nat_tests}
use Rattle.rule_book.specs.declared.season.Fixture.{Fixture}
use Rattle.rule_book.specs.Calendar.{between, moved_to}
use Rattle.season_calendar.specs.Kept.{IsAt, IsGap}
use Rattle.fpl_base.proofs.Around.{All-take_from, All-drop_from, parts_at, set_parts}
use Rattle.season_calendar.proofs.Around.{find_none, find_behind}

-- an earlier fixture has no greater id
id_later : (xs : List Fixture) (i j : ℕ) (d : Fixture) → AllPairs (λ x y. x.id < y.id) xs → i ≤ j → j < length xs → (get_or xs i d).id ≤ (get_or xs j d).id
id_later xs i j d rise le lt = elim (cases_eq i j) [
  | inl same ↦ omega (arith, ap (λ n. (get_or xs n d).id) same)
  | inr other ↦ omega (arith, rise i j d (omega arith) lt)
]

module _ (xs : List Fixture) (rise : AllPairs (λ x y. x.id < y.id) xs) (f : ℕ) where
  -- the comparisons with f rise, as a binary search asks
  comparisons_rise : IsNonDecreasingBy (λ x. ordering_index (nat_cmp x.id f)) xs
  comparisons_rise i j d le lt = index_rises (get_or xs i d).id (get_or xs j d).id (id_later xs i j d rise le lt)
    where
      index_rises : (a b : ℕ) → a ≤ b → ordering_index (nat_cmp a f) ≤ ordering_index (nat_cmp b f)
      index_rises a b h = grind (arith, nat_tests)

  -- a binary search by id ends at the fixture, or at the gap for it
  pub searched : (r : Result ℕ ℕ) → IsSearchInRange r (length xs) → IsBinarySearchResult (λ x. nat_cmp x.id f) xs r → record { found : IfOk r (IsAt xs f); absent : IfErr r (IsGap xs f) }
  searched (Ok at) within equal =
      let here : HoldsAt (λ x. x.id ≡ f) xs at = λ d. ranked _ f _ (sym (equal d)) in
      record {
        found = record {
          within = within;
          before = All-take_from (λ x. x.id < f) xs at (omega arith) (λ k d lt. omega (arith, rise k at d lt within, here d));
          here = here;
          after = All-drop_from (λ x. f < x.id) xs (at + 1) (λ k d low lt. omega (arith, rise at k d (omega arith) lt, here d));
        };
        absent = tt;
      }
  searched (Err at) within parted = record {
    found = tt;
    absent = record {
      within = within;
      before = All-take_from (λ x. x.id < f) xs at within (λ k d lt. ranked _ f _ (sym ((parted comparisons_rise).0 k d (omega arith) lt)));
      after = All-drop_from (λ x. f < x.id) xs at (λ k d low lt. ranked _ f _ (sym ((parted comparisons_rise).1 k d low lt)));
    };
  }

-- none of the fixtures before f, and none of those after it, is f
none_before : (f : ℕ) (xs : List Fixture) → All (λ x. x.id < f) xs → All (λ x. eqb x.id f ≡ false) xs
none_before f xs h = All-weaker (λ x. x.id < f) (λ x. eqb x.id f ≡ false) (λ x lt. ne_eqb x.id f (λ e. omega arith)) xs h

none_after : (f : ℕ) (xs : List Fixture) → All (λ x. f < x.id) xs → All (λ x. eqb x.id f ≡ false) xs
none_after f xs h = All-weaker (λ x. f < x.id) (λ x. eqb x.id f ≡ false) (λ x lt. ne_eqb x.id f (λ e. omega arith)) xs h

module _ (xs : List Fixture) (f i : ℕ) (at : IsAt xs f i) where
  pub found_at : (d : Fixture) → find (λ (x : Fixture). eqb x.id f) xs ≡ Some (get_or xs i d)
  found_at d = ap (find (λ (x : Fixture). eqb x.id f)) (parts_at xs i d at.within) ∙ find_behind (λ (x : Fixture). eqb x.id f) (take i xs) (drop (i + 1) xs) (get_or xs i d) (none_before f (take i xs) at.before) (eq-eqb (get_or xs i d).id f (at.here d))

  -- a move changes the fixture at its place alone
  pub moved_at : (to : Option ℕ) (k : ℕ) (d : Fixture) → map (moved_to f to k) xs ≡ set xs i (record (get_or xs i d) { gw = to; kickoff = k })
  moved_at to k d =
      ap (map (moved_to f to k)) (parts_at xs i d at.within) ∙ (map-append (moved_to f to k) (take i xs) (get_or xs i d ∷ drop (i + 1) xs) ∙ (moved_parts ∙ sym (set_parts xs i (record (get_or xs i d) { gw = to; kickoff = k }) at.within)))
    where
      stays : (ys : List Fixture) → All (λ x. eqb x.id f ≡ false) ys → map (moved_to f to k) ys ≡ ys
      stays [] h = refl
      stays (y ∷ ys) h = rw (All-head (λ x. eqb x.id f ≡ false) y ys h) (ap (λ l. y ∷ l) (stays ys (All-tail (λ x. eqb x.id f ≡ false) y ys h)))

      moved_parts : map (moved_to f to k) (take i xs) ++ map (moved_to f to k) (get_or xs i d ∷ drop (i + 1) xs) ≡ take i xs ++ record (get_or xs i d) { gw = to; kickoff = k } ∷ drop (i + 1) xs
      moved_parts = rw (stays (take i xs) (none_before f (take i xs) at.before), stays (drop (i + 1) xs) (none_after f (drop (i + 1) xs) at.after), eq-eqb (get_or xs i d).id f (at.here d)) refl

module _ (xs : List Fixture) (f i : ℕ) (at : IsAt xs f i) where
  pub between_at : (home away : ℕ) (d : Fixture) → map (between f home away) xs ≡ set xs i (record (get_or xs i d) { home = home; away = away })
  between_at home away d =
      ap (map (between f home away)) (parts_at xs i d at.within) ∙ (map-append (between f home away) (take i xs) (get_or xs i d ∷ drop (i + 1) xs) ∙ (between_parts ∙ sym (set_parts xs i (record (get_or xs i d) { home = home; away = away }) at.within)))
    where
      stays : (ys : List Fixture) → All (λ x. eqb x.id f ≡ false) ys → map (between f home away) ys ≡ ys
      stays [] h = refl
      stays (y ∷ ys) h = rw (All-head (λ x. eqb x.id f ≡ false) y ys h) (ap (λ l. y ∷ l) (stays ys (All-tail (λ x. eqb x.id f ≡ false) y ys h)))

      between_parts : map (between f home away) (take i xs) ++ map (between f home away) (get_or xs i d ∷ drop (i + 1) xs) ≡ take i xs ++ record (get_or xs i d) { home = home; away = away } ∷ drop (i + 1) xs
      between_parts = rw (stays (take i xs) (none_before f (take i xs) at.before), stays (drop (i + 1) xs) (none_after f (drop (i + 1) xs) at.after), eq-eqb (get_or xs i d).id f (at.here d)) refl

module _ (xs : List Fixture) (f i : ℕ) (gap : IsGap xs f i) where
  pub none_there : All (λ x. eqb x.id f ≡ false) xs
  none_there = let P : List Fixture → Type 0 = λ l. All (λ x. eqb x.id f ≡ false) l in
      subst P (take-append-drop i xs) (All-append (λ x. eqb x.id f ≡ false) (take i xs) (drop i xs) (none_before f (take i xs) gap.before) (none_after f (drop i xs) gap.after))

  pub none_found_at : find (λ (x : Fixture). eqb x.id f) xs ≡ None
  none_found_at = find_none (λ (x : Fixture). eqb x.id f) xs none_there

-- a fixture that is found is there, and one that none passes for is not
any_by : (p : Fixture → Bool) (y x : Fixture) (xs : List Fixture) (b : Bool) → p y ≡ b → cond b (Some y) (find p xs) ≡ Some x → (find p xs ≡ Some x → list_any p xs ≡ true) → (p y || list_any p xs) ≡ true
any_by p y x xs true h found rest = rw h refl
any_by p y x xs false h found rest = rw h (rest found)

pub any_found : (p : Fixture → Bool) (xs : List Fixture) (x : Fixture) → find p xs ≡ Some x → list_any p xs ≡ true
any_found p [] x e = cc
any_found p (y ∷ xs) x e = any_by p y x xs (p y) refl e (any_found p xs x)

pub none_any : (p : Fixture → Bool) (xs : List Fixture) → All (λ x. p x ≡ false) xs → list_any p xs ≡ false
none_any p [] h = refl
none_any p (x ∷ xs) h = rw (All-head (λ y. p y ≡ false) x xs h) (none_any p xs (All-tail (λ y. p y ≡ false) x xs h))
