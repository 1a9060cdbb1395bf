-- How many deadlines a moment has passed, from the last lock on.
use Rattle.std.proofs.Common.{◌≡◌, ◌∙◌, ap, refl, ℕ, zero, suc, ◌+◌, ◌-◌, ◌<◌, ◌≤◌, Bool, true, false, cond, leb, List, [], ◌∷◌, length, get_or, set, drop, max, arith, inl, inr}
use Rattle.std.specs.Prelude.{count_by}
use Rattle.std.specs.List.{All, AllPairs, prefix_len, take_while}
use Rattle.std.specs.List.Sorted.{IsNonDecreasingBy}
use Rattle.std.proofs.lemmas.List.{length-take-le, get_or-set_same, get_or-set_other, get_or_default, length-set}
use Rattle.std.proofs.lemmas.List.Elements.{All-head, All-tail}
use Rattle.std.proofs.lemmas.List.Sums.{sum_by-cons, prefix_len-le-length}
use Rattle.std.proofs.lemmas.Bool.{cases_eq}
use Rattle.std.proofs.lemmas.Bool.Decides.{nat_tests, leb_tells}
use Rattle.fpl_base.proofs.Around.{AllPairs-head, AllPairs-tail}

-- no deadline that comes later has passed
pub none_passed : (ds : List ℕ) (t : ℕ) → All (λ d. t < d) ds → count_by (λ d. leb d t) ds ≡ 0
none_passed [] t h = refl
none_passed (d ∷ ds) t h =
    let late : t < d = All-head (λ e. t < e) d ds h in
    let still : leb d t ≡ false = grind (arith, nat_tests) in
    sum_by-cons (λ e. cond (leb e t) 1 0) d ds ∙ rw still (omega (arith, none_passed ds t (All-tail (λ e. t < e) d ds h)))

-- one deadline, passed or not, in front of others for which it is known
passed_yes : (t d n : ℕ) (ds : List ℕ) → leb d t ≡ true → n + prefix_len (λ e. leb e t) (drop n ds) ≡ max n (count_by (λ e. leb e t) ds) → suc n + prefix_len (λ e. leb e t) (drop n ds) ≡ max (suc n) (count_by (λ e. leb e t) (d ∷ ds))
passed_yes t d n ds gone known = rw (sum_by-cons (λ e. cond (leb e t) 1 0) d ds, gone) (omega (arith, known))

passed_no : (t d n : ℕ) (ds : List ℕ) → leb d t ≡ false → count_by (λ e. leb e t) ds ≡ 0 → n + prefix_len (λ e. leb e t) (drop n ds) ≡ max n (count_by (λ e. leb e t) ds) → suc n + prefix_len (λ e. leb e t) (drop n ds) ≡ max (suc n) (count_by (λ e. leb e t) (d ∷ ds))
passed_no t d n ds still none known = rw (sum_by-cons (λ e. cond (leb e t) 1 0) d ds, still) (omega (arith, none, known))

first_yes : (t d : ℕ) (ds : List ℕ) → leb d t ≡ true → prefix_len (λ e. leb e t) ds ≡ count_by (λ e. leb e t) ds → prefix_len (λ e. leb e t) (d ∷ ds) ≡ count_by (λ e. leb e t) (d ∷ ds)
first_yes t d ds gone known = rw (sum_by-cons (λ e. cond (leb e t) 1 0) d ds, gone) (omega (arith, known))

first_no : (t d : ℕ) (ds : List ℕ) → leb d t ≡ false → count_by (λ e. leb e t) ds ≡ 0 → prefix_len (λ e. leb e t) (d ∷ ds) ≡ count_by (λ e. leb e t) (d ∷ ds)
first_no t d ds still none = rw (sum_by-cons (λ e. cond (leb e t) 1 0) d ds, still) (omega (arith, none))

late_all : (t d : ℕ) (ds : List ℕ) → AllPairs (λ a b. a < b) (d ∷ ds) → t < d → All (λ e. t < e) ds
late_all t d ds rise late k e lt = omega (arith, late, AllPairs-head (λ a b. a < b) d ds rise k e lt)

-- deadlines that rise pass from the front on
passed_front : (t : ℕ) (ds : List ℕ) → AllPairs (λ a b. a < b) ds → prefix_len (λ d. leb d t) ds ≡ count_by (λ d. leb d t) ds
passed_front t [] rise = refl
passed_front t (d ∷ ds) rise = elim (leb_tells d t) [
  | inl gone ↦ first_yes t d ds gone.0 (passed_front t ds (AllPairs-tail (λ a b. a < b) d ds rise))
  | inr still ↦ first_no t d ds still.0 (none_passed ds t (late_all t d ds rise still.1))
]

-- going on from l locked gameweeks gives the same number as counting all deadlines
pub passed_from : (t : ℕ) (ds : List ℕ) (l : ℕ) → AllPairs (λ a b. a < b) ds → l ≤ length ds → l + prefix_len (λ d. leb d t) (drop l ds) ≡ max l (count_by (λ d. leb d t) ds)
passed_from t ds zero rise le = omega (arith, passed_front t ds rise)
passed_from t [] (suc l) rise le = absurd (omega arith)
passed_from t (d ∷ ds) (suc l) rise le = elim (leb_tells d t) [
  | inl gone ↦ passed_yes t d l ds gone.0 (passed_from t ds l (AllPairs-tail (λ a b. a < b) d ds rise) (omega arith))
  | inr still ↦ passed_no t d l ds still.0 (none_passed ds t (late_all t d ds rise still.1)) (passed_from t ds l (AllPairs-tail (λ a b. a < b) d ds rise) (omega arith))
]

-- the deadlines that pass are as many as the count of the iterator says
pub length-take_while : (p : ℕ → Bool) (ds : List ℕ) → length (take_while p ds) ≡ prefix_len p ds
length-take_while p ds = length-take-le (prefix_len p ds) ds (prefix_len-le-length p ds)

-- a later deadline is no earlier
later : (ds : List ℕ) (i j d : ℕ) → AllPairs (λ a b. a < b) ds → i ≤ j → j < length ds → get_or ds i d ≤ get_or ds j d
later ds i j d rise le lt = elim (cases_eq i j) [
  | inl same ↦ omega (arith, ap (λ n. get_or ds n d) same)
  | inr other ↦ omega (arith, rise i j d (omega arith) lt)
]

-- deadlines rise with another one between its neighbours
pub rise_with : (ds : List ℕ) (k t : ℕ) → AllPairs (λ a b. a < b) ds → (0 < k → get_or ds (k - 1) 0 < t) → (k + 1 < length ds → t < get_or ds (k + 1) 0) → AllPairs (λ a b. a < b) (set ds k t)
rise_with ds k t rise previous next i j d lt le =
    let within : j < length ds = omega (arith, le, length-set ds k t) in
    elim (cases_eq i k) [
      | inl here ↦
          let same : get_or (set ds k t) i d ≡ t = ap (λ n. get_or (set ds k t) n d) here ∙ get_or-set_same ds k t d (omega arith) in
          let other : get_or (set ds k t) j d ≡ get_or ds j d = get_or-set_other ds k j t d (λ e. omega arith) in
          omega (arith, same, other, next (omega arith), get_or_default ds (k + 1) 0 d (omega arith), later ds (k + 1) j d rise (omega arith) within)
      | inr away ↦
          let stays : get_or (set ds k t) i d ≡ get_or ds i d = get_or-set_other ds k i t d away in
          elim (cases_eq j k) [
            | inl there ↦
                let same : get_or (set ds k t) j d ≡ t = ap (λ n. get_or (set ds k t) n d) there ∙ get_or-set_same ds k t d (omega arith) in
                omega (arith, same, stays, previous (omega arith), get_or_default ds (k - 1) 0 d (omega arith), later ds i (k - 1) d rise (omega arith) (omega arith))
            | inr elsewhere ↦ omega (arith, stays, get_or-set_other ds k j t d elsewhere, rise i j d lt within)
          ]
    ]

-- numbers that rise never fall
pub never_falls : (ds : List ℕ) → AllPairs (λ a b. a < b) ds → IsNonDecreasingBy (λ d. d) ds
never_falls ds rise i j d le lt = later ds i j d rise le lt
