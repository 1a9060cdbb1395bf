use Rattle.std.proofs.Common.{zero, suc, ℕ, ◌≡◌, ◌∙◌, refl, sym, ap, subst, ◌<◌, ◌≤◌, ◌+◌, ◌-◌, ◌*◌, ◌/◌, ◌^◌, ◌⊎◌, inl, inr, ◌==◌, ◌&&◌, ◌||◌, not, arith, Bool, true, false, cond, List, [], ◌∷◌, length, slice_index, get_or, Contains, nat_eq, nat_le, Option, None, Some}
use Rattle.std.specs.Bool.{Decides}
use Rattle.std.specs.List.{list_any, list_all, range_with_len}
use Rattle.std.specs.Cmp.{unsigned_Decides}
use Rattle.std.proofs.lemmas.Bool.{leb-true, le-leb, lt-leb}
use Rattle.std.proofs.lemmas.Bool.Decides.{Decides-eqb, Decides-and, Decides-or, Decides-not, Decides-like, eqb_tells}
use Rattle.std.proofs.lemmas.List.{get_or_default}
use Rattle.std.proofs.lemmas.List.Elements.{Contains-get_or}
use Rattle.std.proofs.lemmas.List.Folds.{Any-from_list_any, list_any_at}
use Rattle.std.proofs.lemmas.List.FromFn.{get_or-range_with_len, length-range_with_len}
use Rattle.std.proofs.lemmas.List.Sums.{AllPass-from_list_all, list_all-from_AllPass}
use Rattle.std.proofs.lemmas.Map.Made.{is_member-Decides}
use Rattle.std.proofs.lemmas.Option.{none-some}
use Rattle.fpl_base.specs.declared.rule.Rule.{Rule}
use Rattle.fpl_base.specs.declared.rule.Rule.TheVariants.{StartPassed, DrawWrong}
use Rattle.rule_book.specs.declared.cup.Bracket.{Bracket}
use Rattle.rule_book.specs.Cups.{HasRounds, StandsOnce, HasNoByeTie, IsCup, has_rounds, stands_once, has_no_bye_tie, is_cup, wrong_cup}

-- a test of each number from 1 to n
some_decides : (p : ℕ → Bool) (P : ℕ → Type 0) → ((r : ℕ) → Decides (p r) (P r)) → (n : ℕ) → Decides (list_any p (range_with_len 1 n)) ((r : ℕ) × (1 ≤ r) × (r ≤ n) × P r)
some_decides p P each n = (to, from)
  where
    to : list_any p (range_with_len 1 n) ≡ true → (r : ℕ) × (1 ≤ r) × (r ≤ n) × P r
    to e =
        let (k, r, lt, at, passes) = Any-from_list_any p (range_with_len 1 n) e in
        let is = get_or-range_with_len 1 n k r (omega (arith, lt, length-range_with_len 1 n)) in
        (r, omega (arith, at, is), omega (arith, at, is, lt, length-range_with_len 1 n), (each r).0 passes)

    from : (r : ℕ) × (1 ≤ r) × (r ≤ n) × P r → list_any p (range_with_len 1 n) ≡ true
    from (r, low, high, holds) =
        let is : get_or (range_with_len 1 n) (r - 1) 0 ≡ r = omega (arith, get_or-range_with_len 1 n (r - 1) 0 (omega arith)) in
        list_any_at p (range_with_len 1 n) (r - 1) 0 (omega (arith, length-range_with_len 1 n)) (ap p is ∙ (each r).1 holds)

-- a test of each number below n
all_decides : (p : ℕ → Bool) (P : ℕ → Type 0) → ((i : ℕ) → Decides (p i) (P i)) → (n : ℕ) → Decides (list_all p (range_with_len 0 n)) ((i : ℕ) → i < n → P i)
all_decides p P each n = (to, from)
  where
    to : list_all p (range_with_len 0 n) ≡ true → (i : ℕ) → i < n → P i
    to e i lt =
        let is : get_or (range_with_len 0 n) i 0 ≡ i = omega (arith, get_or-range_with_len 0 n i 0 lt) in
        (each i).0 (sym (ap p is) ∙ AllPass-from_list_all p (range_with_len 0 n) e i 0 (omega (arith, length-range_with_len 0 n)))

    from : ((i : ℕ) → i < n → P i) → list_all p (range_with_len 0 n) ≡ true
    from h = list_all-from_AllPass p (range_with_len 0 n) at
      where
        at : (i d : ℕ) → i < length (range_with_len 0 n) → p (get_or (range_with_len 0 n) i d) ≡ true
        at i d lt =
            let below : i < n = omega (arith, length-range_with_len 0 n) in
            let is : get_or (range_with_len 0 n) i d ≡ i = omega (arith, get_or-range_with_len 0 n i d below) in
            ap p is ∙ (each i).1 (h i below)

Decides-le : (a b : ℕ) → Decides (nat_le a b) (a ≤ b)
Decides-le a b = (leb-true a b, le-leb a b)

has_rounds-Decides : (b : Bracket) (gameweeks : ℕ) → Decides (has_rounds b gameweeks) (HasRounds b gameweeks)
has_rounds-Decides b gameweeks =
    let test = λ (r : ℕ). (length b.slots == 2 ^ r) && nat_le (b.start + r) (gameweeks + 1) in
    let each = λ (r : ℕ). Decides-and (length b.slots == 2 ^ r) (nat_le (b.start + r) (gameweeks + 1)) (Decides-eqb (length b.slots) (2 ^ r)) (Decides-le (b.start + r) (gameweeks + 1)) in
    Decides-like (has_rounds b gameweeks) (λ h. (h.0, h.1, h.2, h.3.0, h.3.1)) (λ h. (h.0, h.1, h.2, (h.3, h.4)))
    (some_decides test (λ r. (length b.slots ≡ 2 ^ r) × (b.start + r ≤ gameweeks + 1)) each 10)

stands_once-Decides : (slots : List ℕ) → Decides (stands_once slots) (StandsOnce slots)
stands_once-Decides [] = ((λ e i j lt below. absurd (omega arith)), (λ h. refl))
stands_once-Decides (x ∷ xs) =
    let again = is_member-Decides unsigned_Decides xs x in
    let here = Decides-or (x == 0) (not (list_any (nat_eq x) xs)) (Decides-eqb x 0) (Decides-not (list_any (nat_eq x) xs) again) in
    Decides-like (((x == 0) || not (list_any (nat_eq x) xs)) && stands_once xs) to from (Decides-and ((x == 0) || not (list_any (nat_eq x) xs)) (stands_once xs) here (stands_once-Decides xs))
  where
    to : ((x ≡ 0) ⊎ ¬ Contains xs x) × StandsOnce xs → StandsOnce (x ∷ xs)
    to (once, rest) i zero lt below some = absurd (omega arith)
    to (inl bye, rest) zero (suc j) lt below some = absurd (some bye)
    to (inr alone, rest) zero (suc j) lt below some = λ e. alone (subst (Contains xs) (sym e) (Contains-get_or xs j 0 (omega arith)))
    to (once, rest) (suc i) (suc j) lt below some = rest i j (omega arith) (omega arith) some

    from : StandsOnce (x ∷ xs) → ((x ≡ 0) ⊎ ¬ Contains xs x) × StandsOnce xs
    from h = (
      elim (eqb_tells x 0) [
        | inl (e, bye) ↦ inl bye
        | inr (e, some) ↦ inr (λ (k, lt, at). h 0 (suc k) (omega arith) (omega arith) some (sym at ∙ get_or_default xs k x 0 lt))
      ],
      (λ i j lt below some. h (suc i) (suc j) (omega arith) (omega arith) some),
    )

has_no_bye_tie-Decides : (slots : List ℕ) → Decides (has_no_bye_tie slots) (HasNoByeTie slots)
has_no_bye_tie-Decides slots =
    Decides-like (has_no_bye_tie slots) (λ h i lt first second. h i (omega arith) (first, second)) (λ h i lt both. h i (omega arith) both.0 both.1)
    (all_decides (λ i. not ((slice_index slots (2 * i) == 0) && (slice_index slots (2 * i + 1) == 0))) (λ i. ¬ ((slice_index slots (2 * i) ≡ 0) × (slice_index slots (2 * i + 1) ≡ 0)))
    (λ i. Decides-not ((slice_index slots (2 * i) == 0) && (slice_index slots (2 * i + 1) == 0)) (Decides-and (slice_index slots (2 * i) == 0) (slice_index slots (2 * i + 1) == 0) (Decides-eqb (slice_index slots (2 * i)) 0) (Decides-eqb (slice_index slots (2 * i + 1)) 0))) (length slots / 2))

-- the test of a cup that can be played
pub is_cup-Decides : (b : Bracket) (gameweeks : ℕ) → Decides (is_cup b gameweeks) (IsCup b gameweeks)
is_cup-Decides b gameweeks =
    let last = Decides-and (stands_once b.slots) (has_no_bye_tie b.slots) (stands_once-Decides b.slots) (has_no_bye_tie-Decides b.slots) in
    let coins = Decides-and (length b.coins + 1 == length b.slots) (stands_once b.slots && has_no_bye_tie b.slots) (Decides-eqb (length b.coins + 1) (length b.slots)) last in
    let all = Decides-and (has_rounds b gameweeks) ((length b.coins + 1 == length b.slots) && (stands_once b.slots && has_no_bye_tie b.slots)) (has_rounds-Decides b gameweeks) coins in
    Decides-like (is_cup b gameweeks) (λ p. record { rounds = p.0; coin_for_each_tie = p.1.0; stands_once = p.1.1.0; no_bye_tie = p.1.1.1 }) (λ cup. (cup.rounds, (cup.coin_for_each_tie, (cup.stands_once, cup.no_bye_tie)))) all

judged : (b : Bracket) (passed cup : Bool) → Option Rule
judged b passed cup = cond passed (Some (StartPassed b.start)) (cond cup None (Some DrawWrong))

pub start_passed : (b : Bracket) (gameweeks locked : ℕ) → b.start ≤ locked → wrong_cup b gameweeks locked ≡ Some (StartPassed b.start)
unfolding judged
start_passed b gameweeks locked passed = ap (λ p. judged b p (is_cup b gameweeks)) (le-leb b.start locked passed)

pub no_cup : (b : Bracket) (gameweeks locked : ℕ) → locked < b.start → ¬ IsCup b gameweeks → wrong_cup b gameweeks locked ≡ Some DrawWrong
unfolding judged
no_cup b gameweeks locked later ne =
    ap (λ p. judged b p (is_cup b gameweeks)) (lt-leb b.start locked later) ∙ ap (judged b false) (test_fails (is_cup b gameweeks) refl)
  where
    test_fails : (t : Bool) → t ≡ is_cup b gameweeks → is_cup b gameweeks ≡ false
    test_fails true e = absurd (ne ((is_cup-Decides b gameweeks).0 (sym e)))
    test_fails false e = sym e

pub no_rule_broken : (b : Bracket) (gameweeks locked : ℕ) → locked < b.start → IsCup b gameweeks → wrong_cup b gameweeks locked ≡ None
unfolding judged
no_rule_broken b gameweeks locked later cup =
    ap (λ p. judged b p (is_cup b gameweeks)) (lt-leb b.start locked later) ∙ ap (judged b false) ((is_cup-Decides b gameweeks).1 cup)

-- where no rule is broken, the test holds
pub unbroken_cup : (b : Bracket) (gameweeks locked : ℕ) → wrong_cup b gameweeks locked ≡ None → IsCup b gameweeks
unbroken_cup b gameweeks locked none = (is_cup-Decides b gameweeks).0 (by_tests (nat_le b.start locked) (is_cup b gameweeks) none)
  where
    by_tests : (passed cup : Bool) → cond passed (Some (StartPassed b.start)) (cond cup None (Some DrawWrong)) ≡ None → cup ≡ true
    by_tests true cup none = absurd (none-some (StartPassed b.start) (sym none))
    by_tests false true none = refl
    by_tests false false none = absurd (none-some DrawWrong (sym none))
