-- The fixtures that stand in each gameweek, as fixtures come and go.
use Rattle.std.proofs.Common.{◌≡◌, ◌≢◌, ◌∙◌, sym, ap, subst, refl, ℕ, ◌+◌, ◌-◌, ◌<◌, ◌≤◌, true, false, not, ltb, leb, eqb, List, [], ◌∷◌, ◌++◌, length, get_or, take, drop, map, filter, Option, Some, None, IfSome, arith, inl, inr, length-append}
use Rattle.std.specs.List.{All, insert}
use Rattle.std.proofs.lemmas.List.{map-append, length-set, get_or-set_same, get_or-set_other, take-append-drop}
use Rattle.std.proofs.lemmas.List.Elements.{All-append, All-map, All-filter, All-weaker, filter-append}
use Rattle.std.proofs.lemmas.Bool.{cases_eq}
use Rattle.std.proofs.lemmas.Bool.Decides.{nat_tests}
use Rattle.rule_book.specs.declared.season.Fixture.{Fixture}
use Rattle.rule_book.specs.Calendar.{standing_among, is_gameweek}
use Rattle.season_calendar.specs.Kept.{AreStanding, ids_with, ids_without, put_in, taken_out}
use Rattle.std.specs.List.Sorted.{IsPartitionPoint}
use Rattle.fpl_base.proofs.Around.{All-take_from, All-drop_from}
use Rattle.season_calendar.proofs.Around.{filter_all, filter_front, filter_back}

-- all before the key, and all after it
abbrev pub Before : ℕ → List Fixture → Type 0
Before f xs = All (λ x. x.id < f) xs

abbrev pub After : ℕ → List Fixture → Type 0
After f xs = All (λ x. f < x.id) xs

standing_among-append : (xs ys : List Fixture) (g : ℕ) → standing_among (xs ++ ys) g ≡ standing_among xs g ++ standing_among ys g
standing_among-append xs ys g =
    ap (map (λ (x : Fixture). x.id)) (filter-append (λ (x : Fixture). is_gameweek g x.gw) xs ys) ∙ map-append (λ (x : Fixture). x.id) (filter (λ (x : Fixture). is_gameweek g x.gw) xs) (filter (λ (x : Fixture). is_gameweek g x.gw) ys)

ids_before : (f g : ℕ) (xs : List Fixture) → Before f xs → All (λ i. i < f) (standing_among xs g)
ids_before f g xs h = All-map (λ i. i < f) (λ (x : Fixture). x.id) _ (All-filter (λ (x : Fixture). is_gameweek g x.gw) (λ x. x.id < f) xs h)

ids_after : (f g : ℕ) (xs : List Fixture) → After f xs → All (λ i. f < i) (standing_among xs g)
ids_after f g xs h = All-map (λ i. f < i) (λ (x : Fixture). x.id) _ (All-filter (λ (x : Fixture). is_gameweek g x.gw) (λ x. f < x.id) xs h)

-- an id goes between those before it and those after it
with_between : (f : ℕ) (ls hs : List ℕ) → All (λ i. i < f) ls → All (λ i. f < i) hs → ids_with f (ls ++ hs) ≡ ls ++ f ∷ hs
with_between f ls hs before after =
    let low = filter_front (λ i. ltb i f) ls hs (All-weaker (λ i. i < f) (λ i. ltb i f ≡ true) (λ i h. grind (arith, nat_tests)) ls before) (All-weaker (λ i. f < i) (λ i. ltb i f ≡ false) (λ i h. grind (arith, nat_tests)) hs after) in
    let high = filter_back (λ i. leb f i) ls hs (All-weaker (λ i. i < f) (λ i. leb f i ≡ false) (λ i h. grind (arith, nat_tests)) ls before) (All-weaker (λ i. f < i) (λ i. leb f i ≡ true) (λ i h. grind (arith, nat_tests)) hs after) in
    rw (low, high) refl

others_pass : (f : ℕ) (ls : List ℕ) → All (λ i. i ≢ f) ls → ids_without f ls ≡ ls
others_pass f ls h = filter_all (λ i. not (eqb i f)) ls (All-weaker (λ i. i ≢ f) (λ i. not (eqb i f) ≡ true) (λ i e. grind (arith, nat_tests)) ls h)

without_between : (f : ℕ) (ls hs : List ℕ) → All (λ i. i < f) ls → All (λ i. f < i) hs → ids_without f (ls ++ f ∷ hs) ≡ ls ++ hs
without_between f ls hs before after =
    let low = others_pass f ls (All-weaker (λ i. i < f) (λ i. i ≢ f) (λ i h e. omega arith) ls before) in
    let high = others_pass f hs (All-weaker (λ i. f < i) (λ i. i ≢ f) (λ i h e. omega arith) hs after) in
    let here : eqb f f ≡ true = grind (arith, nat_tests) in
    filter-append (λ i. not (eqb i f)) ls (f ∷ hs) ∙ rw (low, here, high) refl

without_none : (f : ℕ) (ls hs : List ℕ) → All (λ i. i < f) ls → All (λ i. f < i) hs → ids_without f (ls ++ hs) ≡ ls ++ hs
without_none f ls hs before after =
    others_pass f (ls ++ hs) (All-append (λ i. i ≢ f) ls hs (All-weaker (λ i. i < f) (λ i. i ≢ f) (λ i h e. omega arith) ls before) (All-weaker (λ i. f < i) (λ i. i ≢ f) (λ i h e. omega arith) hs after))

module _ (xs ys : List Fixture) (x : Fixture) (before : Before x.id xs) (after : After x.id ys) where
  -- of the fixtures of a gameweek, with and without fixture x
  pub standing-here : (g : ℕ) → is_gameweek g x.gw ≡ true → standing_among (xs ++ x ∷ ys) g ≡ standing_among xs g ++ x.id ∷ standing_among ys g
  standing-here g here = standing_among-append xs (x ∷ ys) g ∙ rw here refl

  pub standing-away : (g : ℕ) → is_gameweek g x.gw ≡ false → standing_among (xs ++ x ∷ ys) g ≡ standing_among (xs ++ ys) g
  standing-away g away = standing_among-append xs (x ∷ ys) g ∙ (rw away refl ∙ sym (standing_among-append xs ys g))

  pub standing-with : (g : ℕ) → is_gameweek g x.gw ≡ true → standing_among (xs ++ x ∷ ys) g ≡ ids_with x.id (standing_among (xs ++ ys) g)
  standing-with g here =
      standing-here g here ∙ sym (ap (ids_with x.id) (standing_among-append xs ys g) ∙ with_between x.id (standing_among xs g) (standing_among ys g) (ids_before x.id g xs before) (ids_after x.id g ys after))

  pub standing-without : (g : ℕ) → is_gameweek g x.gw ≡ true → standing_among (xs ++ ys) g ≡ ids_without x.id (standing_among (xs ++ x ∷ ys) g)
  standing-without g here =
      standing_among-append xs ys g ∙ sym (ap (ids_without x.id) (standing-here g here) ∙ without_between x.id (standing_among xs g) (standing_among ys g) (ids_before x.id g xs before) (ids_after x.id g ys after))

  pub standing-others : (g : ℕ) → ids_without x.id (standing_among (xs ++ ys) g) ≡ standing_among (xs ++ ys) g
  standing-others g =
      ap (ids_without x.id) (standing_among-append xs ys g) ∙ (without_none x.id (standing_among xs g) (standing_among ys g) (ids_before x.id g xs before) (ids_after x.id g ys after) ∙ sym (standing_among-append xs ys g))

  -- one more stands in a gameweek, or as many
  pub length-standing_here : (g : ℕ) → is_gameweek g x.gw ≡ true → length (standing_among (xs ++ x ∷ ys) g) ≡ length (standing_among (xs ++ ys) g) + 1
  length-standing_here g here =
      rw (standing-here g here, standing_among-append xs ys g, length-append (standing_among xs g) (x.id ∷ standing_among ys g), length-append (standing_among xs g) (standing_among ys g)) (omega arith)

-- the gameweek of a fixture, and of another gameweek
gameweek_same : (g : ℕ) → is_gameweek g (Some g) ≡ true
gameweek_same g = grind (arith, nat_tests)

gameweek_other : (g h : ℕ) → h ≢ g → is_gameweek g (Some h) ≡ false
gameweek_other g h e = grind (arith, nat_tests)

abbrev pub InSeason : List (List ℕ) → Option ℕ → Type 0
InSeason lists gw = IfSome gw (λ g. (1 ≤ g) × (g ≤ length lists))

-- the lists with one fixture more
pub lists_put_in : (lists : List (List ℕ)) (xs ys : List Fixture) (x : Fixture) (gw : Option ℕ) → x.gw ≡ gw → Before x.id xs → After x.id ys → InSeason lists gw → AreStanding lists (xs ++ ys) → AreStanding (put_in lists gw x.id) (xs ++ x ∷ ys)
lists_put_in lists xs ys x None e before after within kept =
    record { lists_are = λ k lt. kept.lists_are k lt ∙ sym (standing-away xs ys x before after (k + 1) (ap (is_gameweek (k + 1)) e)) }
lists_put_in lists xs ys x (Some g) e before after within kept = record { lists_are = by }
  where
    by : (k : ℕ) → k < length (put_in lists (Some g) x.id) → get_or (put_in lists (Some g) x.id) k [] ≡ standing_among (xs ++ x ∷ ys) (k + 1)
    by k lt =
        let low : k < length lists = omega (arith, lt, length-set lists (g - 1) (ids_with x.id (get_or lists (g - 1) []))) in
        elim (cases_eq k (g - 1)) [
          | inl here ↦
              let number : g ≡ k + 1 = omega arith in
              let stood : get_or lists (g - 1) [] ≡ standing_among (xs ++ ys) (k + 1) = ap (λ n. get_or lists n []) (sym here) ∙ kept.lists_are k low in
              ap (λ n. get_or (put_in lists (Some g) x.id) n []) here ∙ (get_or-set_same lists (g - 1) (ids_with x.id (get_or lists (g - 1) [])) [] (omega arith) ∙ (ap (ids_with x.id) stood ∙ sym (standing-with xs ys x before after (k + 1) (ap (is_gameweek (k + 1)) (e ∙ ap (λ n. Some n) number) ∙ gameweek_same (k + 1)))))
          | inr away ↦
              get_or-set_other lists (g - 1) k (ids_with x.id (get_or lists (g - 1) [])) [] away ∙ (kept.lists_are k low ∙ sym (standing-away xs ys x before after (k + 1) (ap (is_gameweek (k + 1)) e ∙ gameweek_other (k + 1) g (λ (same : g ≡ k + 1). away (omega arith)))))
        ]

-- the lists with one fixture less
pub lists_taken_out : (lists : List (List ℕ)) (xs ys : List Fixture) (x : Fixture) (gw : Option ℕ) → x.gw ≡ gw → Before x.id xs → After x.id ys → InSeason lists gw → AreStanding lists (xs ++ x ∷ ys) → AreStanding (taken_out lists gw x.id) (xs ++ ys)
lists_taken_out lists xs ys x None e before after within kept =
    record { lists_are = λ k lt. kept.lists_are k lt ∙ standing-away xs ys x before after (k + 1) (ap (is_gameweek (k + 1)) e) }
lists_taken_out lists xs ys x (Some g) e before after within kept = record { lists_are = by }
  where
    by : (k : ℕ) → k < length (taken_out lists (Some g) x.id) → get_or (taken_out lists (Some g) x.id) k [] ≡ standing_among (xs ++ ys) (k + 1)
    by k lt =
        let low : k < length lists = omega (arith, lt, length-set lists (g - 1) (ids_without x.id (get_or lists (g - 1) []))) in
        elim (cases_eq k (g - 1)) [
          | inl here ↦
              let number : g ≡ k + 1 = omega arith in
              let stood : get_or lists (g - 1) [] ≡ standing_among (xs ++ x ∷ ys) (k + 1) = ap (λ n. get_or lists n []) (sym here) ∙ kept.lists_are k low in
              ap (λ n. get_or (taken_out lists (Some g) x.id) n []) here ∙ (get_or-set_same lists (g - 1) (ids_without x.id (get_or lists (g - 1) [])) [] (omega arith) ∙ (ap (ids_without x.id) stood ∙ sym (standing-without xs ys x before after (k + 1) (ap (is_gameweek (k + 1)) (e ∙ ap (λ n. Some n) number) ∙ gameweek_same (k + 1)))))
          | inr away ↦
              get_or-set_other lists (g - 1) k (ids_without x.id (get_or lists (g - 1) [])) [] away ∙ (kept.lists_are k low ∙ standing-away xs ys x before after (k + 1) (ap (is_gameweek (k + 1)) e ∙ gameweek_other (k + 1) g (λ (same : g ≡ k + 1). away (omega arith))))
        ]

-- an id goes to the place that parts the smaller ids from the others
pub ids_with_is : (ids : List ℕ) (f at : ℕ) → at ≤ length ids → IsPartitionPoint (λ i. ltb i f ≡ true) (λ i. ltb i f ≡ false) ids at → insert ids at f ≡ ids_with f ids
ids_with_is ids f at le parts =
    let front = All-take_from (λ i. ltb i f ≡ true) ids at le (λ k d lt. parts.0 k d (omega arith) lt) in
    let back = All-drop_from (λ i. ltb i f ≡ false) ids at (λ k d low lt. parts.1 k d low lt) in
    let small = filter_front (λ i. ltb i f) (take at ids) (drop at ids) front back in
    let large = filter_back (λ i. leb f i) (take at ids) (drop at ids) (All-weaker (λ i. ltb i f ≡ true) (λ i. leb f i ≡ false) (λ i h. grind (arith, nat_tests)) _ front) (All-weaker (λ i. ltb i f ≡ false) (λ i. leb f i ≡ true) (λ i h. grind (arith, nat_tests)) _ back) in
    let P : List ℕ → Type 0 = λ l. take at ids ++ f ∷ drop at ids ≡ filter (λ i. ltb i f) l ++ f ∷ filter (λ i. leb f i) l in
    subst P (take-append-drop at ids) (rw (small, large) refl)
