-- The points of the fifteen, each as often as it counts, are those of the gameweek.
use Rattle.std.proofs.Common.{◌≡◌, ◌<◌, ◌≤◌, ◌+◌, ◌==◌, ◌||◌, ◌&&◌, ℕ, zero, suc, ℤ, pos, ◌+ℤ◌, ◌*ℤ◌, ◌-◌, Bool, true, false, true≢false, ⊎_elim, List, [], ◌∷◌, ◌++◌, Option, Some, None, cond, drop, fold, map, arith, refl, sym, ap, ap₂, subst, ◌∙◌, if◌then◌else◌}
use Rattle.std.specs.Prelude.{find, not, unwrap_or}
use Rattle.std.specs.List.{list_any, range_with_len}
use Rattle.std.proofs.lemmas.Bool.{cases_eq}
use Rattle.std.proofs.lemmas.Bool.Decides.{nat_tests}
use Rattle.std.proofs.lemmas.Int.{ints}
use Rattle.std.proofs.lemmas.List.Folds.{list_any-append}
use Rattle.fpl_base.specs.declared.kinds.Chip.{Chip}
use Rattle.fpl_base.specs.declared.kinds.Chip.TheVariants as chip
use Rattle.rule_book.specs.declared.team.Team.{Team}
use Rattle.rule_book.specs.declared.team_score.Armband.{Armband}
use Rattle.rule_book.specs.declared.team_score.Figures.{Figures}
use Rattle.rule_book.specs.Armbands.{armband_at, armband_of, factor_of}
use Rattle.rule_book.specs.Elevens.{can_stand, is_legal_eleven, keeper_for}
use Rattle.rule_book.specs.FinalSlots.{final_slots, slots_through, stand_for}
use Rattle.rule_book.specs.HeadToHead.{total_of}
use Rattle.rule_book.specs.TeamScores.{counting, extra_points, points_at, points_of_slots}
use Rattle.rule_book.specs.Teams.{all_slots, bench, did_play, is_boost, is_still, starters}
use Rattle.season_book.specs.PicksWindow.{factor_at}

-- Sums.

abbrev sum_of : (ℕ → ℤ) → List ℕ → ℤ
sum_of f [] = pos 0
sum_of f (s ∷ slots) = f s +ℤ sum_of f slots

nothing_added : (z : ℤ) → z ≡ z +ℤ pos 0
nothing_added z = omega (arith, ints)

regrouped : (a b c : ℤ) → (a +ℤ b) +ℤ c ≡ a +ℤ (b +ℤ c)
regrouped a b c = omega (arith, ints)

swapped : (a b c d : ℤ) → (a +ℤ b) +ℤ (c +ℤ d) ≡ (a +ℤ c) +ℤ (b +ℤ d)
swapped a b c d = omega (arith, ints)

folded : (f : ℕ → ℤ) (a : ℤ) (slots : List ℕ) → fold (λ total s. total +ℤ f s) a slots ≡ a +ℤ sum_of f slots
folded f a [] = nothing_added a
folded f a (s ∷ slots) = folded f (a +ℤ f s) slots ∙ regrouped a (f s) (sum_of f slots)

from_nothing : (z : ℤ) → pos 0 +ℤ z ≡ z
from_nothing z = omega (arith, ints)

mapped : (f : ℕ → ℤ) (a : ℤ) (slots : List ℕ) → fold ◌+ℤ◌ a (map f slots) ≡ a +ℤ sum_of f slots
mapped f a [] = nothing_added a
mapped f a (s ∷ slots) = mapped f (a +ℤ f s) slots ∙ regrouped a (f s) (sum_of f slots)

sums_added : (f f2 : ℕ → ℤ) (slots : List ℕ) → sum_of (λ s. f s +ℤ f2 s) slots ≡ sum_of f slots +ℤ sum_of f2 slots
sums_added f f2 [] = refl
sums_added f f2 (s ∷ slots) = ap (λ z. (f s +ℤ f2 s) +ℤ z) (sums_added f f2 slots) ∙ swapped (f s) (f2 s) (sum_of f slots) (sum_of f2 slots)

sums_same : (f f2 : ℕ → ℤ) → ((s : ℕ) → f s ≡ f2 s) → (slots : List ℕ) → sum_of f slots ≡ sum_of f2 slots
sums_same f f2 same [] = refl
sums_same f f2 same (s ∷ slots) = ap₂ ◌+ℤ◌ (same s) (sums_same f f2 same slots)

sum_none : (slots : List ℕ) → sum_of (λ s. pos 0) slots ≡ pos 0
sum_none [] = refl
sum_none (s ∷ slots) = from_nothing (sum_of (λ s. pos 0) slots) ∙ sum_none slots

-- Who is among slots.

abbrev is_among : List ℕ → ℕ → Bool
is_among slots s = list_any (λ other. other == s) slots

abbrev Differ : List ℕ → Type 0
Differ [] = Unit {0}
Differ (s ∷ slots) = (is_among slots s ≡ false) × Differ slots

same_number : (n : ℕ) → (n == n) ≡ true
same_number n = grind (arith, nat_tests)

turned : (m n : ℕ) → (m == n) ≡ (n == m)
turned m n = ⊎_elim (λ e. ap (λ k. k == n) e ∙ ap (λ k. n == k) (sym e)) (λ e. grind (arith, nat_tests, e)) (cases_eq m n)

is_number : (m n : ℕ) → (m == n) ≡ true → m ≡ n
is_number m n e = grind (arith, nat_tests, e)

either_false : (a b : Bool) → (a || b) ≡ false → (a ≡ false) × (b ≡ false)
either_false true b e = absurd (true≢false e)
either_false false b e = (refl, e)

by_bool : {X : Type 0} (b : Bool) → (b ≡ true → X) → (b ≡ false → X) → X
by_bool true holds fails = holds refl
by_bool false holds fails = fails refl

-- the sum over one slot, which is not among some, and which is among some that differ
none_slot : (f : ℕ → ℤ) (slots : List ℕ) (x : ℕ) → is_among slots x ≡ false → sum_of (λ s. if x == s then f s else pos 0) slots ≡ pos 0
none_slot f [] x out = refl
none_slot f (s ∷ slots) x out =
    let apart = either_false (s == x) (is_among slots x) out in
    ap (λ b. (if b then f s else pos 0) +ℤ sum_of (λ k. if x == k then f k else pos 0) slots) (turned x s ∙ apart.0)
    ∙ from_nothing (sum_of (λ k. if x == k then f k else pos 0) slots)
    ∙ none_slot f slots x apart.1

one_slot : (f : ℕ → ℤ) (slots : List ℕ) (x : ℕ) → Differ slots → is_among slots x ≡ true → sum_of (λ s. if x == s then f s else pos 0) slots ≡ f x
one_slot f [] x differ there = absurd (true≢false (sym there))
one_slot f (s ∷ slots) x (new, differ) there = by_bool (x == s)
    (λ e.
    let is = is_number x s e in
    ap₂ (λ b z. (if b then f s else pos 0) +ℤ z) e (none_slot f slots x (ap (is_among slots) is ∙ new))
    ∙ sym (nothing_added (f s))
    ∙ ap f (sym is))
    (λ e.
    ap₂ (λ b z. (if b then f s else pos 0) +ℤ z) e (one_slot f slots x differ (ap (λ b. b || is_among slots x) (sym (turned s x ∙ e)) ∙ there))
    ∙ from_nothing (f x))

-- The slots 1 to 15.

low_out : (a b n : ℕ) → a < b → is_among (range_with_len b n) a ≡ false
low_out a b zero low = refl
low_out a b (suc n) low =
    let other : (b == a) ≡ false = grind (arith, nat_tests, low) in
    ap (λ t. t || is_among (range_with_len (b + 1) n) a) other ∙ low_out a (b + 1) n (omega (arith, low))

range_differs : (a n : ℕ) → Differ (range_with_len a n)
range_differs a zero = tt
range_differs a (suc n) = (low_out a (a + 1) n (omega arith), range_differs (a + 1) n)

in_range : (x a n : ℕ) → a ≤ x → x < a + n → is_among (range_with_len a n) x ≡ true
in_range x a zero from to = absurd (omega (arith, from, to))
in_range x a (suc n) from to = by_bool (a == x)
    (λ e. ap (λ t. t || is_among (range_with_len (a + 1) n) x) e)
    (λ e.
    ap (λ t. t || is_among (range_with_len (a + 1) n) x) e
    ∙ in_range x (a + 1) n (let apart : (a ≡ x → ⊥) = λ same. true≢false (sym (ap (λ k. a == k) (sym same) ∙ same_number a) ∙ e) in omega (arith, from, apart)) (omega (arith, to)))

abbrev AreSlots : List ℕ → Type 0
AreSlots [] = Unit {0}
AreSlots (s ∷ slots) = ((1 ≤ s) × (s ≤ 15)) × AreSlots slots

module _ (f : ℕ → ℤ) where
  split : (slots : List ℕ) (x s : ℕ) → is_among slots x ≡ false
      → (if (x == s) || is_among slots s then f s else pos 0) ≡ (if x == s then f s else pos 0) +ℤ (if is_among slots s then f s else pos 0)
  split slots x s new = by_bool (x == s)
      (λ e.
      let out : is_among slots s ≡ false = ap (is_among slots) (sym (is_number x s e)) ∙ new in
      ap (λ b. if b || is_among slots s then f s else pos 0) e
      ∙ nothing_added (f s)
      ∙ sym (ap₂ (λ b t. (if b then f s else pos 0) +ℤ (if t then f s else pos 0)) e out))
      (λ e.
      ap (λ b. if b || is_among slots s then f s else pos 0) e
      ∙ sym (from_nothing (if is_among slots s then f s else pos 0))
      ∙ sym (ap (λ b. (if b then f s else pos 0) +ℤ (if is_among slots s then f s else pos 0)) e))

  -- what is added up over all slots, of those that are among some, is what is added up over these
  among_all : (slots : List ℕ) → Differ slots → AreSlots slots → sum_of (λ s. if is_among slots s then f s else pos 0) (range_with_len 1 15) ≡ sum_of f slots
  among_all [] differ within = sum_none (range_with_len 1 15)
  among_all (x ∷ slots) (new, differ) (one, within) =
      sums_same (λ s. if (x == s) || is_among slots s then f s else pos 0) (λ s. (if x == s then f s else pos 0) +ℤ (if is_among slots s then f s else pos 0)) (λ s. split slots x s new) (range_with_len 1 15)
      ∙ sums_added (λ s. if x == s then f s else pos 0) (λ s. if is_among slots s then f s else pos 0) (range_with_len 1 15)
      ∙ ap₂ ◌+ℤ◌ (one_slot f (range_with_len 1 15) x (range_differs 1 15) (in_range x 1 15 one.0 (let to = one.1 in omega (arith, to)))) (among_all slots differ within)

-- The final eleven.

-- slots that stand for the goalkeeper and so many outfield starters: starters up to that one, or of the bench
abbrev AllFit : ℕ → List ℕ → Type 0
AllFit k [] = Unit {0}
AllFit k (s ∷ slots) = ((1 ≤ s) × (s ≤ 15) × (k + 2 ≤ s → 12 ≤ s)) × AllFit k slots

fit_more : (k : ℕ) (slots : List ℕ) → AllFit k slots → AllFit (k + 1) slots
fit_more k [] fit = tt
fit_more k (s ∷ slots) ((from, to, bench_or), fit) = ((from, to, λ late. bench_or (omega (arith, late))), fit_more k slots fit)

fit_end : (k : ℕ) (slots : List ℕ) (s : ℕ) → AllFit k slots → 1 ≤ s → s ≤ 15 → (k + 2 ≤ s → 12 ≤ s) → AllFit k (slots ++ s ∷ [])
fit_end k [] s fit from to bench_or = ((from, to, bench_or), tt)
fit_end k (x ∷ slots) s (one, fit) from to bench_or = (one, fit_end k slots s fit from to bench_or)

fresh : (k n : ℕ) (slots : List ℕ) → n ≡ k + 2 → n ≤ 11 → AllFit k slots → is_among slots n ≡ false
fresh k n [] is few fit = refl
fresh k n (s ∷ slots) is few ((from, to, bench_or), fit) =
    let other : (s == n) ≡ false = ⊎_elim (λ same. absurd (let late = bench_or (omega (arith, same, is)) in omega (arith, late, same, few))) (λ apart. grind (arith, nat_tests, apart)) (cases_eq s n) in
    ap (λ t. t || is_among slots n) other ∙ fresh k n slots is few fit

differ_end : (slots : List ℕ) (s : ℕ) → Differ slots → is_among slots s ≡ false → Differ (slots ++ s ∷ [])
differ_end [] s differ new = (refl, tt)
differ_end (x ∷ slots) s (one, differ) new =
    let apart = either_false (x == s) (is_among slots s) new in
    (list_any-append (λ other. other == x) slots (s ∷ []) ∙ ap₂ (λ a b. a || (b || false)) one (turned s x ∙ apart.0), differ_end slots s differ apart.1)

are_slots : (k : ℕ) (slots : List ℕ) → AllFit k slots → AreSlots slots
are_slots k [] fit = tt
are_slots k (s ∷ slots) ((from, to, bench_or), fit) = ((from, to), are_slots k slots fit)

-- who stands for a starter is new, and fits
record Stands (k : ℕ) (before : List ℕ) (s : ℕ) : Type 0 where
  new : is_among before s ≡ false
  from : 1 ≤ s
  to : s ≤ 15
  bench_or : k + 3 ≤ s → 12 ≤ s

module _ (team : Team) (figures : List Figures) where
  unused : (played used legal : Bool) → (played && not used && legal) ≡ true → used ≡ false
  unused true true true is = cc
  unused true true false is = cc
  unused true false legal is = refl
  unused false used legal is = absurd (true≢false (sym is))

  of_bench : (k : ℕ) (before : List ℕ) (n : ℕ) → n ≡ k + 2 → n ≤ 11 → AllFit k before → Stands k before (unwrap_or (find (can_stand team figures before n) bench) n)
  of_bench k before n is few fit = by_bool (can_stand team figures before n 13) (λ e. subst (Stands k before) (sym (found13 e)) (benched 13 (omega arith) (omega arith) e))
      (λ not13. by_bool (can_stand team figures before n 14) (λ e. subst (Stands k before) (sym (found14 not13 e)) (benched 14 (omega arith) (omega arith) e))
      (λ not14. by_bool (can_stand team figures before n 15) (λ e. subst (Stands k before) (sym (found15 not13 not14 e)) (benched 15 (omega arith) (omega arith) e))
      (λ not15. subst (Stands k before) (sym (none_found not13 not14 not15)) (record { new = fresh k n before is few fit; from = omega (arith, is); to = omega (arith, few); bench_or = λ late. absurd (omega (arith, late, is)) }))))
    where
      benched : (s : ℕ) → 12 ≤ s → s ≤ 15 → can_stand team figures before n s ≡ true → Stands k before s
      benched s from to e = record { new = unused (did_play figures s) (is_among before s) (is_legal_eleven team (before ++ s ∷ drop n starters)) e; from = omega (arith, from); to = to; bench_or = λ late. from }

      found13 : can_stand team figures before n 13 ≡ true → unwrap_or (find (can_stand team figures before n) bench) n ≡ 13
      found13 e = ap (λ b. unwrap_or (cond b (Some 13) (cond (can_stand team figures before n 14) (Some 14) (cond (can_stand team figures before n 15) (Some 15) None))) n) e

      found14 : can_stand team figures before n 13 ≡ false → can_stand team figures before n 14 ≡ true → unwrap_or (find (can_stand team figures before n) bench) n ≡ 14
      found14 e e2 = ap₂ (λ a b. unwrap_or (cond a (Some 13) (cond b (Some 14) (cond (can_stand team figures before n 15) (Some 15) None))) n) e e2

      found15 : can_stand team figures before n 13 ≡ false → can_stand team figures before n 14 ≡ false → can_stand team figures before n 15 ≡ true → unwrap_or (find (can_stand team figures before n) bench) n ≡ 15
      found15 e e2 e3 = (λ i. unwrap_or (cond (e i) (Some 13) (cond (e2 i) (Some 14) (cond (e3 i) (Some 15) None))) n)

      none_found : can_stand team figures before n 13 ≡ false → can_stand team figures before n 14 ≡ false → can_stand team figures before n 15 ≡ false → unwrap_or (find (can_stand team figures before n) bench) n ≡ n
      none_found e e2 e3 = (λ i. unwrap_or (cond (e i) (Some 13) (cond (e2 i) (Some 14) (cond (e3 i) (Some 15) None))) n)

  stands : (k : ℕ) (before : List ℕ) (n : ℕ) → n ≡ k + 2 → n ≤ 11 → AllFit k before → Stands k before (stand_for team figures before n)
  stands k before n is few fit = by_bool (did_play figures n)
      (λ e. subst (Stands k before) (sym (ap (λ b. if b then n else unwrap_or (find (can_stand team figures before n) bench) n) e))
      (record { new = fresh k n before is few fit; from = omega (arith, is); to = omega (arith, few); bench_or = λ late. absurd (omega (arith, late, is)) }))
      (λ e. subst (Stands k before) (sym (ap (λ b. if b then n else unwrap_or (find (can_stand team figures before n) bench) n) e)) (of_bench k before n is few fit))

  keeper_fits : AllFit 0 (keeper_for figures ∷ [])
  keeper_fits = by_bool (not (did_play figures 1) && did_play figures 12)
      (λ e. subst (λ s. AllFit 0 (s ∷ [])) (sym (ap (λ b. if b then 12 else 1) e)) ((omega arith, omega arith, λ late. omega arith), tt))
      (λ e. subst (λ s. AllFit 0 (s ∷ [])) (sym (ap (λ b. if b then 12 else 1) e)) ((omega arith, omega arith, λ late. absurd (omega (arith, late))), tt))

  record Through (k : ℕ) : Type 0 where
    fit : AllFit k (slots_through team figures k)
    differ : Differ (slots_through team figures k)

  through : (k : ℕ) → k ≤ 9 + 1 → Through k
  through zero few = record { fit = keeper_fits; differ = (refl, tt) }
  through (suc k) few =
      let before = through k (omega (arith, few)) in
      let s = stand_for team figures (slots_through team figures k) (k + 2) in
      let one = stands k (slots_through team figures k) (k + 2) refl (omega (arith, few)) before.fit in
      let next : k + 1 ≡ suc k = omega arith in
      record {
        fit = subst (λ m. AllFit m (slots_through team figures k ++ s ∷ [])) next (fit_end (k + 1) (slots_through team figures k) s (fit_more k (slots_through team figures k) before.fit) one.from one.to (λ late. one.bench_or (omega (arith, late))));
        differ = differ_end (slots_through team figures k) s before.differ one.new;
      }

  -- a starter who played stands for himself
  himself : (k n : ℕ) → 1 ≤ n → n ≤ k + 1 → did_play figures n ≡ true → is_among (slots_through team figures k) n ≡ true
  himself zero n from to played =
      let one : n ≡ 1 = omega (arith, from, to) in
      let first : did_play figures 1 ≡ true = ap (did_play figures) (sym one) ∙ played in
      ap₂ (λ b m. ((if not b && did_play figures 12 then 12 else 1) == m) || false) first one
  himself (suc k) n from to played = ⊎_elim
      (λ last.
      let is : k + 2 ≡ n = omega (arith, last) in
      list_any-append (λ other. other == n) (slots_through team figures k) (stand_for team figures (slots_through team figures k) (k + 2) ∷ [])
      ∙ ap (λ s. is_among (slots_through team figures k) n || ((s == n) || false)) (ap (stand_for team figures (slots_through team figures k)) is ∙ ap (λ b. if b then n else unwrap_or (find (can_stand team figures (slots_through team figures k) n) bench) n) played)
      ∙ ap (λ b. is_among (slots_through team figures k) n || (b || false)) (same_number n)
      ∙ or_true (is_among (slots_through team figures k) n))
      (λ earlier.
      list_any-append (λ other. other == n) (slots_through team figures k) (stand_for team figures (slots_through team figures k) (k + 2) ∷ [])
      ∙ ap (λ b. b || is_among (stand_for team figures (slots_through team figures k) (k + 2) ∷ []) n) (himself k n from (omega (arith, to, earlier)) played))
      (cases_eq n (k + 2))
    where
      or_true : (b : Bool) → (b || true) ≡ true
      or_true true = refl
      or_true false = refl

-- The multipliers.

range_slots : (a n : ℕ) → 1 ≤ a → a + n ≤ 16 → AreSlots (range_with_len a n)
range_slots a zero from to = tt
range_slots a (suc n) from to = ((from, omega (arith, to)), range_slots (a + 1) n (omega (arith, from)) (omega (arith, to)))

no_time : (z : ℤ) → pos 0 *ℤ z ≡ pos 0
no_time z = omega (arith, ints)

one_time : (z : ℤ) → pos 1 *ℤ z ≡ z
one_time z = omega (arith, ints)

-- the points that count twice or three times are those that count once, and once or twice more
more_times : (chip : Chip) (z : ℤ) → pos (factor_of chip) *ℤ z ≡ z +ℤ (pos (factor_of chip - 1) *ℤ z)
more_times chip.TripleCaptain z = omega (arith, ints)
more_times chip.None z = omega (arith, ints)
more_times chip.Wildcard z = omega (arith, ints)
more_times chip.FreeHit z = omega (arith, ints)
more_times chip.BenchBoost z = omega (arith, ints)

module _ (team : Team) (figures : List Figures) (ended : Bool) where
  abbrev slots : List ℕ
  slots = counting team (final_slots team figures ended)

  record Count : Type 0 where
    differ : Differ (counting team (final_slots team figures ended))
    within : AreSlots (counting team (final_slots team figures ended))

  count : Count
  count = by_bool (is_boost team.chip)
      (λ boost. record {
        differ = subst (λ b. Differ (if b then all_slots else final_slots team figures ended)) (sym boost) (range_differs 1 15);
        within = subst (λ b. AreSlots (if b then all_slots else final_slots team figures ended)) (sym boost) (range_slots 1 15 (omega arith) (omega arith));
      })
      (λ plain. by_bool (is_still ended team)
      (λ still. record {
        differ = subst (λ b. Differ (if b then all_slots else final_slots team figures ended)) (sym plain) (subst (λ b. Differ (if b then starters else slots_through team figures 10)) (sym still) (range_differs 1 11));
        within = subst (λ b. AreSlots (if b then all_slots else final_slots team figures ended)) (sym plain) (subst (λ b. AreSlots (if b then starters else slots_through team figures 10)) (sym still) (range_slots 1 11 (omega arith) (omega arith)));
      })
      (λ over. let ten = through team figures 10 (omega arith) in record {
        differ = subst (λ b. Differ (if b then all_slots else final_slots team figures ended)) (sym plain) (subst (λ b. Differ (if b then starters else slots_through team figures 10)) (sym over) ten.differ);
        within = subst (λ b. AreSlots (if b then all_slots else final_slots team figures ended)) (sym plain) (subst (λ b. AreSlots (if b then starters else slots_through team figures 10)) (sym over) (are_slots 10 (slots_through team figures 10) ten.fit));
      }))

  -- a starter who plays, or whose gameweek has not ended, counts
  counts : (n : ℕ) → 1 ≤ n → n ≤ 11 → (not ended || did_play figures n) ≡ true → is_among (counting team (final_slots team figures ended)) n ≡ true
  counts n from to plays = by_bool (is_boost team.chip)
      (λ boost. ap (λ b. is_among (if b then all_slots else final_slots team figures ended) n) boost ∙ in_range n 1 15 from (omega (arith, to)))
      (λ plain. ap (λ b. is_among (if b then all_slots else final_slots team figures ended) n) plain ∙ by_bool (is_still ended team)
      (λ still. ap (λ b. is_among (if b then starters else slots_through team figures 10) n) still ∙ in_range n 1 11 from (omega (arith, to)))
      (λ over.
      ap (λ b. is_among (if b then starters else slots_through team figures 10) n) over
      ∙ himself team figures 10 n from to (ap (λ b. b || did_play figures n) (sym (either_false (not ended) (is_boost team.chip) over).0) ∙ plays)))

  -- the points of the slots that count, each by its factor
  abbrev weighed : Option Armband → ℕ → ℤ
  weighed armband s = pos (factor_at armband s) *ℤ points_at figures s

  sum_points : points_of_slots figures (counting team (final_slots team figures ended)) ≡ sum_of (points_at figures) (counting team (final_slots team figures ended))
  sum_points = folded (points_at figures) (pos 0) (counting team (final_slots team figures ended)) ∙ from_nothing (sum_of (points_at figures) (counting team (final_slots team figures ended)))

  without : sum_of (weighed None) (counting team (final_slots team figures ended)) ≡ points_of_slots figures (counting team (final_slots team figures ended)) +ℤ extra_points figures None
  without =
      sums_same (weighed None) (points_at figures) (λ s. one_time (points_at figures s)) (counting team (final_slots team figures ended))
      ∙ sym sum_points
      ∙ nothing_added (points_of_slots figures (counting team (final_slots team figures ended)))

  worn_at : (n s : ℕ) → weighed (Some (armband_at n team)) s ≡ points_at figures s +ℤ (if n == s then pos (factor_of team.chip - 1) *ℤ points_at figures s else pos 0)
  worn_at n s = by_bool (n == s)
      (λ e.
      ap (λ b. pos (if b then factor_of team.chip else 1) *ℤ points_at figures s) e
      ∙ more_times team.chip (points_at figures s)
      ∙ sym (ap (λ b. points_at figures s +ℤ (if b then pos (factor_of team.chip - 1) *ℤ points_at figures s else pos 0)) e))
      (λ e.
      ap (λ b. pos (if b then factor_of team.chip else 1) *ℤ points_at figures s) e
      ∙ one_time (points_at figures s)
      ∙ nothing_added (points_at figures s)
      ∙ sym (ap (λ b. points_at figures s +ℤ (if b then pos (factor_of team.chip - 1) *ℤ points_at figures s else pos 0)) e))

  worn : (n : ℕ) → is_among (counting team (final_slots team figures ended)) n ≡ true
      → sum_of (weighed (Some (armband_at n team))) (counting team (final_slots team figures ended)) ≡ points_of_slots figures (counting team (final_slots team figures ended)) +ℤ extra_points figures (Some (armband_at n team))
  worn n there =
      sums_same (weighed (Some (armband_at n team))) (λ s. points_at figures s +ℤ (if n == s then pos (factor_of team.chip - 1) *ℤ points_at figures s else pos 0)) (worn_at n) (counting team (final_slots team figures ended))
      ∙ sums_added (points_at figures) (λ s. if n == s then pos (factor_of team.chip - 1) *ℤ points_at figures s else pos 0) (counting team (final_slots team figures ended))
      ∙ ap₂ ◌+ℤ◌ (sym sum_points) (one_slot (λ s. pos (factor_of team.chip - 1) *ℤ points_at figures s) (counting team (final_slots team figures ended)) n count.differ there)

  module _ (captain_from : 1 ≤ team.captain) (captain_to : team.captain ≤ 11) (vice_from : 1 ≤ team.vice) (vice_to : team.vice ≤ 11) where
    by_vice : (plays : Bool) → did_play figures team.vice ≡ plays
        → sum_of (weighed (if plays then Some (armband_at team.vice team) else None)) (counting team (final_slots team figures ended))
        ≡ points_of_slots figures (counting team (final_slots team figures ended)) +ℤ extra_points figures (if plays then Some (armband_at team.vice team) else None)
    by_vice true is = worn team.vice (counts team.vice vice_from vice_to (ap (λ b. not ended || b) is ∙ either_true (not ended)))
      where
        either_true : (b : Bool) → (b || true) ≡ true
        either_true true = refl
        either_true false = refl
    by_vice false is = without

    by_captain : (plays : Bool) → (not ended || did_play figures team.captain) ≡ plays
        → sum_of (weighed (if plays then Some (armband_at team.captain team) else if did_play figures team.vice then Some (armband_at team.vice team) else None)) (counting team (final_slots team figures ended))
        ≡ points_of_slots figures (counting team (final_slots team figures ended))
        +ℤ extra_points figures (if plays then Some (armband_at team.captain team) else if did_play figures team.vice then Some (armband_at team.vice team) else None)
    by_captain true is = worn team.captain (counts team.captain captain_from captain_to is)
    by_captain false is = by_vice (did_play figures team.vice) refl

    chosen : (b : Bool) (n : ℕ) (z : ℤ) → pos (if b then n else 0) *ℤ z ≡ (if b then pos n *ℤ z else pos 0)
    chosen true n z = refl
    chosen false n z = no_time z

    -- the points of all slots, each as often as it counts, are those of the gameweek
    pub multipliers_add_up : total_of (map (λ s. pos (if is_among (counting team (final_slots team figures ended)) s then factor_at (armband_of team figures ended) s else 0) *ℤ points_at figures s) all_slots)
        ≡ points_of_slots figures (counting team (final_slots team figures ended)) +ℤ extra_points figures (armband_of team figures ended)
    multipliers_add_up =
        let each : ℕ → ℤ = λ s. pos (if is_among (counting team (final_slots team figures ended)) s then factor_at (armband_of team figures ended) s else 0) *ℤ points_at figures s in
        mapped each (pos 0) all_slots
        ∙ from_nothing (sum_of each all_slots)
        ∙ sums_same each (λ s. if is_among (counting team (final_slots team figures ended)) s then weighed (armband_of team figures ended) s else pos 0)
        (λ s. chosen (is_among (counting team (final_slots team figures ended)) s) (factor_at (armband_of team figures ended) s) (points_at figures s)) all_slots
        ∙ among_all (weighed (armband_of team figures ended)) (counting team (final_slots team figures ended)) count.differ count.within
        ∙ by_captain (not ended || did_play figures team.captain) refl
