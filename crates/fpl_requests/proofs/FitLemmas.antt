-- A walk over rows finds the route whose pattern a path fits, where each parameter takes a whole segment.
use Rattle.std.proofs.Common.{◌≡◌, ◌∙◌, ap, sym, refl, ℕ, zero, suc, List, [], ◌∷◌, ◌-◌, ◌<◌, ◌≤◌, length, drop, Bool, true, false, cond, arith, nat_eq, ◌==◌, inl, inr, ◌⊎◌, subst}
use Rattle.std.proofs.lemmas.List.{drop_all, length-drop}
use Rattle.std.proofs.lemmas.List.Elements.{All-drop, All-head, All-tail}
use Rattle.std.proofs.lemmas.Bool.Decides.{nat_tests}
use Rattle.std.specs.Prelude.{Option, Some, None, is_some, ltb, ◌&&◌, ◌||◌, not, nat_lt}
use Rattle.std.specs.Prelude.{All}
use Rattle.std.specs.Cmp.Lexicographic.{pointwise}
use Rattle.matchit.specs.Rows.{RowsOf}
use Rattle.matchit.specs.Seek.{own, step, or_else, seek, first, param_step, has_slash, segment, same_text, cuts, longest_from, with_suffix}
use Rattle.fpl_requests.specs.Targets.{Has, after_segment, fits}
use Rattle.fpl_requests.proofs.PatternTests.{begins_well, is_whole}

-- ---- segments

abbrev Slashed : List ℕ → Type 0
Slashed p = (0 < length (segment p)) × (drop (length (segment p) - 1) (segment p) ≡ 47 ∷ []) × (drop (length (segment p) - 1) p ≡ after_segment p)

slashed_more : (b : ℕ) (p : List ℕ) (v : Bool) → (b == 47) ≡ v → has_slash (b ∷ p) ≡ true → (has_slash p ≡ true → Slashed p) → Slashed (b ∷ p)
slashed_more b p true e h ih =
    let is : b ≡ 47 = grind (arith, nat_tests) in
    rw e (omega arith, ap (λ x. x ∷ []) is, refl)
slashed_more b p false e h ih =
    let rest : has_slash p ≡ true = rw e at h in
    let (some, ends, goes) = ih rest in
    let one : suc (length (segment p)) - 1 ≡ suc (length (segment p) - 1) = omega arith in
    rw (e, one) (omega arith, ends, goes)

pub segment_slash : (p : List ℕ) → has_slash p ≡ true → Slashed p
segment_slash [] h = absurd (cc h)
segment_slash (b ∷ p) h = slashed_more b p (b == 47) refl h (segment_slash p)

abbrev Unslashed : List ℕ → Type 0
Unslashed p = (segment p ≡ p) × (after_segment p ≡ [])

unslashed_more : (b : ℕ) (p : List ℕ) (v : Bool) → (b == 47) ≡ v → has_slash (b ∷ p) ≡ false → (has_slash p ≡ false → Unslashed p) → Unslashed (b ∷ p)
unslashed_more b p true e h ih = let bad : true ≡ false = rw e at h in absurd (cc bad)
unslashed_more b p false e h ih =
    let rest : has_slash p ≡ false = rw e at h in
    let (same, none) = ih rest in
    rw e (ap (λ q. b ∷ q) same, none)

pub segment_none : (p : List ℕ) → has_slash p ≡ false → Unslashed p
segment_none [] h = (refl, refl)
segment_none (b ∷ p) h = unslashed_more b p (b == 47) refl h (segment_none p)

-- the last byte of a text with no slash is no slash
no_slash_at : (n : ℕ) (p : List ℕ) → has_slash p ≡ false → pointwise nat_eq (47 ∷ []) (drop n p) ≡ false
no_slash_at n [] h = rw (drop_none n) refl
  where
    drop_none : (n : ℕ) → drop n (let none : List ℕ = [] in none) ≡ []
    drop_none zero = refl
    drop_none (suc n) = refl
no_slash_at zero (b ∷ p) h = first_is (b == 47) refl
  where
    first_is : (v : Bool) → (b == 47) ≡ v → pointwise nat_eq (47 ∷ []) (b ∷ p) ≡ false
    first_is true e = let bad : true ≡ false = rw e at h in absurd (cc bad)
    first_is false e = let other : (47 == b) ≡ false = grind (arith, nat_tests) in rw other refl
no_slash_at (suc n) (b ∷ p) h = no_slash_at n p (tail_none (b == 47) refl)
  where
    tail_none : (v : Bool) → (b == 47) ≡ v → has_slash p ≡ false
    tail_none true e = let bad : true ≡ false = rw e at h in absurd (cc bad)
    tail_none false e = rw e at h

slash_leaves : (q : List ℕ) → has_slash q ≡ true → (length (after_segment q) == 0) ≡ false
slash_leaves [] h = absurd (cc h)
slash_leaves (b ∷ q) h = leaves (b == 47) refl (slash_leaves q)
  where
    leaves : (v : Bool) → (b == 47) ≡ v → (has_slash q ≡ true → (length (after_segment q) == 0) ≡ false) → (length (after_segment (b ∷ q)) == 0) ≡ false
    leaves true e ih = rw e (grind (arith, nat_tests))
    leaves false e ih = let rest : has_slash q ≡ true = rw e at h in rw e (ih rest)

length_after : (q : List ℕ) → length (after_segment q) ≤ length q
length_after [] = omega arith
length_after (b ∷ q) = shorter (b == 47) refl (length_after q)
  where
    shorter : (v : Bool) → (b == 47) ≡ v → length (after_segment q) ≤ length q → length (after_segment (b ∷ q)) ≤ length (b ∷ q)
    shorter true e ih = rw e (omega arith)
    shorter false e ih = rw e (omega arith)

-- a segment before a slash ends with it
cut_there : (b : ℕ) (q : List ℕ) → has_slash q ≡ true → cuts (b ∷ segment q) (47 ∷ []) ≡ true
cut_there b q slash =
    let (some, ends, goes) = segment_slash q slash in
    let long : ltb 1 (suc (length (segment q))) ≡ true = grind (arith, nat_tests, some) in
    let one : suc (length (segment q)) - 1 ≡ suc (length (segment q) - 1) = omega arith in
    rw (long, one, ends) refl

below_256 : (b : ℕ) → b < 256 → (b == 256) ≡ false
below_256 b h = grind (arith, nat_tests, h)

-- ---- patterns

whole_tail : (x : ℕ) (t : List ℕ) → is_whole (x ∷ t) ≡ true → is_whole t ≡ true
whole_tail x t h = by_parts (nat_lt x 257) (not (x == 256) || begins_well t) (is_whole t) h
  where
    by_parts : (a b c : Bool) → (a && (b && c)) ≡ true → c ≡ true
    by_parts true true c h = h
    by_parts true false c h = absurd (cc h)
    by_parts false b c h = absurd (cc h)

whole_begins : (t : List ℕ) → is_whole (256 ∷ t) ≡ true → begins_well t ≡ true
whole_begins t h = by_parts (begins_well t) (is_whole t) h
  where
    by_parts : (b c : Bool) → (b && c) ≡ true → b ≡ true
    by_parts true c h = refl
    by_parts false c h = absurd (cc h)

whole_low : (x : ℕ) (t : List ℕ) → is_whole (x ∷ t) ≡ true → (x == 257) ≡ false
whole_low x t h =
    let low : nat_lt x 257 ≡ true = by_parts (nat_lt x 257) ((not (x == 256) || begins_well t) && is_whole t) h in
    grind (arith, nat_tests)
  where
    by_parts : (a b : Bool) → (a && b) ≡ true → a ≡ true
    by_parts true b h = refl
    by_parts false b h = absurd (cc h)

-- ---- rows

module _ {K : Type 0} where
  abbrev pub AllWhole : RowsOf K → Type 0
  AllWhole [] = Unit {0}
  AllWhole ((t, j) ∷ rest) = (is_whole t ≡ true) × AllWhole rest

  abbrev pub AllTails : RowsOf K → Type 0
  AllTails [] = Unit {0}
  AllTails ((t, j) ∷ rest) = (begins_well t ≡ true) × AllTails rest

  own_has : (k : K) (rs : RowsOf K) → Has [] k rs → is_some (own rs) ≡ true
  own_has k [] h = absurd h
  own_has k (([], j) ∷ rest) h = refl
  own_has k ((x ∷ t, j) ∷ rest) (inl (e, f)) = absurd (cc e)
  own_has k ((x ∷ t, j) ∷ rest) (inr h) = own_has k rest h

  has_own : (k : K) (rs : RowsOf K) → own rs ≡ Some k → Has [] k rs
  has_own k [] h = absurd (cc h)
  has_own k (([], j) ∷ rest) h = inl (refl, cc h)
  has_own k ((x ∷ t, j) ∷ rest) h = inr (has_own k rest h)

  step_has_at : (b : ℕ) (p : List ℕ) (k : K) (x : ℕ) (t : List ℕ) (j : K) (rest : RowsOf K) (v : Bool) → (x == b) ≡ v → Has (b ∷ p) k ((x ∷ t, j) ∷ rest) → (Has (b ∷ p) k rest → Has p k (step b rest)) → Has p k (step b ((x ∷ t, j) ∷ rest))
  step_has_at b p k x t j rest true e (inl (f, g)) ih = rw e (inl (cc f, g))
  step_has_at b p k x t j rest true e (inr h) ih = rw e (inr (ih h))
  step_has_at b p k x t j rest false e (inl (f, g)) ih =
      let same : x ≡ b = cc f in
      let bad : (x == b) ≡ true = grind (arith, nat_tests) in
      absurd (cc (sym bad ∙ e))
  step_has_at b p k x t j rest false e (inr h) ih = rw e (ih h)

  step_has : (b : ℕ) (p : List ℕ) (k : K) (rs : RowsOf K) → Has (b ∷ p) k rs → Has p k (step b rs)
  step_has b p k [] h = absurd h
  step_has b p k (([], j) ∷ rest) (inl (e, f)) = absurd (cc e)
  step_has b p k (([], j) ∷ rest) (inr h) = step_has b p k rest h
  step_has b p k ((x ∷ t, j) ∷ rest) h = step_has_at b p k x t j rest (x == b) refl h (step_has b p k rest)

  has_step_at : (b : ℕ) (p : List ℕ) (k : K) (x : ℕ) (t : List ℕ) (j : K) (rest : RowsOf K) (v : Bool) → (x == b) ≡ v → Has p k (cond v ((t, j) ∷ step b rest) (step b rest)) → (Has p k (step b rest) → Has (b ∷ p) k rest) → Has (b ∷ p) k ((x ∷ t, j) ∷ rest)
  has_step_at b p k x t j rest true e (inl (f, g)) ih =
      let same : x ≡ b = grind (arith, nat_tests) in
      inl (rw (same, f) refl, g)
  has_step_at b p k x t j rest true e (inr h) ih = inr (ih h)
  has_step_at b p k x t j rest false e h ih = inr (ih h)

  has_step : (b : ℕ) (p : List ℕ) (k : K) (rs : RowsOf K) → Has p k (step b rs) → Has (b ∷ p) k rs
  has_step b p k [] h = absurd h
  has_step b p k (([], j) ∷ rest) h = inr (has_step b p k rest h)
  has_step b p k ((x ∷ t, j) ∷ rest) h = has_step_at b p k x t j rest (x == b) refl h (has_step b p k rest)

  -- ---- what a step keeps

  whole_step : (b : ℕ) (rs : RowsOf K) → AllWhole rs → AllWhole (step b rs)
  whole_step b [] h = tt
  whole_step b (([], j) ∷ rest) h = whole_step b rest h.1
  whole_step b ((x ∷ t, j) ∷ rest) h = at_test (x == b) (whole_step b rest h.1)
    where
      at_test : (v : Bool) → AllWhole (step b rest) → AllWhole (cond v ((t, j) ∷ step b rest) (step b rest))
      at_test true ih = (whole_tail x t h.0, ih)
      at_test false ih = ih

  tails_step : (rs : RowsOf K) → AllWhole rs → AllTails (step 256 rs)
  tails_step [] h = tt
  tails_step (([], j) ∷ rest) h = tails_step rest h.1
  tails_step ((x ∷ t, j) ∷ rest) h = at_test (x == 256) refl (tails_step rest h.1)
    where
      at_test : (v : Bool) → (x == 256) ≡ v → AllTails (step 256 rest) → AllTails (cond v ((t, j) ∷ step 256 rest) (step 256 rest))
      at_test true e ih =
          let same : x ≡ 256 = grind (arith, nat_tests) in
          (whole_begins t (subst (λ (y : ℕ). is_whole (y ∷ t) ≡ true) same h.0), ih)
      at_test false e ih = ih

  no_catch_all : (rs : RowsOf K) → AllWhole rs → step 257 rs ≡ []
  no_catch_all [] h = refl
  no_catch_all (([], j) ∷ rest) h = no_catch_all rest h.1
  no_catch_all ((x ∷ t, j) ∷ rest) h = rw (whole_low x t h.0) (no_catch_all rest h.1)

  whole_with : (s : List ℕ) (rs : RowsOf K) → AllWhole rs → AllWhole (with_suffix s rs)
  whole_with s [] h = tt
  whole_with s ((t, j) ∷ rest) h = at_test (same_text (segment t) s) (whole_with s rest h.1)
    where
      at_test : (v : Bool) → AllWhole (with_suffix s rest) → AllWhole (cond v ((t, j) ∷ with_suffix s rest) (with_suffix s rest))
      at_test true ih = (h.0, ih)
      at_test false ih = ih

  has_with : (s p : List ℕ) (k : K) (rs : RowsOf K) → Has p k (with_suffix s rs) → Has p k rs
  has_with s p k [] h = absurd h
  has_with s p k ((t, j) ∷ rest) h = at_test (same_text (segment t) s) h (has_with s p k rest)
    where
      at_test : (v : Bool) → Has p k (cond v ((t, j) ∷ with_suffix s rest) (with_suffix s rest)) → (Has p k (with_suffix s rest) → Has p k rest) → Has p k ((t, j) ∷ rest)
      at_test true (inl e) ih = inl e
      at_test true (inr h) ih = inr (ih h)
      at_test false h ih = inr (ih h)

  with_has : (p : List ℕ) (k : K) (rs : RowsOf K) → Has (47 ∷ p) k rs → Has (47 ∷ p) k (with_suffix (47 ∷ []) rs)
  with_has p k [] h = absurd h
  with_has p k ((t, j) ∷ rest) (inl (e, f)) =
      let same : same_text (segment t) (47 ∷ []) ≡ true = rw e refl in
      rw same (inl (e, f))
  with_has p k ((t, j) ∷ rest) (inr h) = at_test (same_text (segment t) (47 ∷ [])) (with_has p k rest h)
    where
      at_test : (v : Bool) → Has (47 ∷ p) k (with_suffix (47 ∷ []) rest) → Has (47 ∷ p) k (cond v ((t, j) ∷ with_suffix (47 ∷ []) rest) (with_suffix (47 ∷ []) rest))
      at_test true ih = inr ih
      at_test false ih = ih

  -- ---- the longest suffix

  longest_keeps : (seg : List ℕ) (rs : RowsOf K) → AllTails rs → longest_from seg (47 ∷ []) rs ≡ 47 ∷ []
  longest_keeps seg [] h = refl
  longest_keeps seg (([], j) ∷ rest) h = longest_keeps seg rest h.1
  longest_keeps seg ((y ∷ t, j) ∷ rest) h = rw h.0 (longest_keeps seg rest h.1)

  longest_none : (seg : List ℕ) (rs : RowsOf K) → cuts seg (47 ∷ []) ≡ false → AllTails rs → longest_from seg [] rs ≡ []
  longest_none seg [] e h = refl
  longest_none seg (([], j) ∷ rest) e h = longest_none seg rest e h.1
  longest_none seg ((y ∷ t, j) ∷ rest) e h =
      let same : y ≡ 47 = grind (arith, nat_tests, h.0) in
      rw (h.0, same, e) (longest_none seg rest e h.1)

  longest_yes : (seg p : List ℕ) (k : K) (rs : RowsOf K) → cuts seg (47 ∷ []) ≡ true → AllTails rs → Has (47 ∷ p) k rs → longest_from seg [] rs ≡ 47 ∷ []
  longest_yes seg p k [] e h has = absurd has
  longest_yes seg p k (([], j) ∷ rest) e h (inl (f, g)) = absurd (cc f)
  longest_yes seg p k (([], j) ∷ rest) e h (inr has) = longest_yes seg p k rest e h.1 has
  longest_yes seg p k ((y ∷ t, j) ∷ rest) e h has =
      let same : y ≡ 47 = grind (arith, nat_tests, h.0) in
      rw (h.0, same, e) (longest_keeps seg rest h.1)

  longest_either : (seg : List ℕ) (rs : RowsOf K) → cuts seg (47 ∷ []) ≡ true → AllTails rs → (longest_from seg [] rs ≡ 47 ∷ []) ⊎ (longest_from seg [] rs ≡ [])
  longest_either seg [] e h = inr refl
  longest_either seg (([], j) ∷ rest) e h = longest_either seg rest e h.1
  longest_either seg ((y ∷ t, j) ∷ rest) e h =
      let same : y ≡ 47 = grind (arith, nat_tests, h.0) in
      inl (rw (h.0, same, e) (longest_keeps seg rest h.1))

  -- ---- a parameter's step

  -- before a slash there is nothing to take
  param_empty : (rs : RowsOf K) (q : List ℕ) → AllTails rs → param_step rs (47 ∷ q) ≡ (0, [])
  unfolding param_step
  param_empty rs q h = rw (longest_none (47 ∷ []) rs refl h) refl

  -- the last segment is taken whole
  param_last : (rs : RowsOf K) (b : ℕ) (q : List ℕ) → (b == 47) ≡ false → has_slash q ≡ false → AllTails rs → param_step rs (b ∷ q) ≡ (suc (length q), rs)
  unfolding param_step
  param_last rs b q e none h =
      let all : has_slash (b ∷ q) ≡ false = rw e none in
      let same = (segment_none (b ∷ q) all).0 in
      let no_cut : cuts (b ∷ q) (47 ∷ []) ≡ false = not_cut (ltb 1 (suc (length q))) (no_slash_at (suc (length q) - 1) (b ∷ q) all) in
      rw (same, longest_none (b ∷ q) rs no_cut h, all) refl
    where
      not_cut : (v : Bool) → pointwise nat_eq (47 ∷ []) (drop (suc (length q) - 1) (b ∷ q)) ≡ false → (v && pointwise nat_eq (47 ∷ []) (drop (suc (length q) - 1) (b ∷ q))) ≡ false
      not_cut true e = e
      not_cut false e = refl

  -- a segment before a slash is taken, but for the slash, where a row goes on with one
  param_goes : (rs : RowsOf K) (b : ℕ) (q : List ℕ) → (b == 47) ≡ false → longest_from (b ∷ segment q) [] rs ≡ 47 ∷ [] → param_step rs (b ∷ q) ≡ (length (segment q), with_suffix (47 ∷ []) rs)
  unfolding param_step
  param_goes rs b q e longest =
      let less : suc (length (segment q)) - 1 ≡ length (segment q) = omega arith in
      rw (e, longest, less) refl

  -- and else nothing is taken
  param_stops : (rs : RowsOf K) (b : ℕ) (q : List ℕ) → (b == 47) ≡ false → has_slash q ≡ true → longest_from (b ∷ segment q) [] rs ≡ [] → param_step rs (b ∷ q) ≡ (0, [])
  unfolding param_step
  param_stops rs b q e slash longest = rw (e, longest, slash) refl

  abbrev Goes : RowsOf K → ℕ → List ℕ → List ℕ → K → Type 0
  Goes rs b q p k = Has p k (param_step rs (b ∷ q)).1 × (drop ((param_step rs (b ∷ q)).0 - 1) q ≡ after_segment q)

  -- a row that goes on from what follows the segment is kept
  param_has : (rs : RowsOf K) (b : ℕ) (q p : List ℕ) (k : K) → AllTails rs → (b == 47) ≡ false → begins_well p ≡ true → Has p k rs → fits p (after_segment q) ≡ true → Goes rs b q p k
  param_has rs b q [] k tails e well has fit = at_slash (has_slash q) refl
    where
      at_slash : (v : Bool) → has_slash q ≡ v → Goes rs b q [] k
      at_slash true slash = let none = slash_leaves q slash in absurd (cc (sym fit ∙ none))
      at_slash false slash =
          let (same, none) = segment_none q slash in
          let less : suc (length q) - 1 ≡ length q = omega arith in
          rw (param_last rs b q e slash tails, less) (has, drop_all (length q) q (omega arith) ∙ sym none)
  param_has rs b q (y ∷ p) k tails e well has fit = at_slash (has_slash q) refl
    where
      is : y ≡ 47
      is = grind (arith, nat_tests, well)

      at_slash : (v : Bool) → has_slash q ≡ v → Goes rs b q (y ∷ p) k
      at_slash true slash =
          let (some, ends, goes) = segment_slash q slash in
          let has47 = subst (λ (z : ℕ). Has (z ∷ p) k rs) is has in
          let longest = longest_yes (b ∷ segment q) p k rs (cut_there b q slash) tails has47 in
          rw (param_goes rs b q e longest) (subst (λ (z : ℕ). Has (z ∷ p) k (with_suffix (47 ∷ []) rs)) (sym is) (with_has p k rs has47), goes)
      at_slash false slash =
          let (same, none) = segment_none q slash in
          let bad : fits (y ∷ p) [] ≡ true = rw none at fit in
          absurd (cc bad)

  -- and what is kept was there
  has_param : (rs : RowsOf K) (b : ℕ) (q p : List ℕ) (k : K) → AllTails rs → Has p k (param_step rs (b ∷ q)).1 → ((b == 47) ≡ false) × Has p k rs × (drop ((param_step rs (b ∷ q)).0 - 1) q ≡ after_segment q)
  has_param rs b q p k tails has = at_byte (b == 47) refl
    where
      at_longest : (b == 47) ≡ false → has_slash q ≡ true → (longest_from (b ∷ segment q) [] rs ≡ 47 ∷ []) ⊎ (longest_from (b ∷ segment q) [] rs ≡ []) → ((b == 47) ≡ false) × Has p k rs × (drop ((param_step rs (b ∷ q)).0 - 1) q ≡ after_segment q)
      at_longest e slash (inl longest) =
          let (some, ends, goes) = segment_slash q slash in
          let kept : Has p k (with_suffix (47 ∷ []) rs) = rw (param_goes rs b q e longest) at has in
          (e, has_with (47 ∷ []) p k rs kept, rw (param_goes rs b q e longest) goes)
      at_longest e slash (inr longest) = let none : Has p k [] = rw (param_stops rs b q e slash longest) at has in absurd none

      at_slash : (v : Bool) → (b == 47) ≡ false → has_slash q ≡ v → ((b == 47) ≡ false) × Has p k rs × (drop ((param_step rs (b ∷ q)).0 - 1) q ≡ after_segment q)
      at_slash true e slash = at_longest e slash (longest_either (b ∷ segment q) rs (cut_there b q slash) tails)
      at_slash false e slash =
          let (same, none) = segment_none q slash in
          let less : suc (length q) - 1 ≡ length q = omega arith in
          let kept : Has p k rs = rw (param_last rs b q e slash tails) at has in
          (e, kept, rw (param_last rs b q e slash tails, less) (drop_all (length q) q (omega arith) ∙ sym none))

      at_byte : (v : Bool) → (b == 47) ≡ v → ((b == 47) ≡ false) × Has p k rs × (drop ((param_step rs (b ∷ q)).0 - 1) q ≡ after_segment q)
      at_byte true e =
          let is : b ≡ 47 = grind (arith, nat_tests) in
          let at47 : Has p k (param_step rs (47 ∷ q)).1 = subst (λ (x : ℕ). Has p k (param_step rs (x ∷ q)).1) is has in
          let none : Has p k [] = rw (param_empty rs q tails) at at47 in
          absurd none
      at_byte false e = at_slash (has_slash q) e refl

  -- ---- the walk

  seek_drop : (n : ℕ) (rs : RowsOf K) (q : List ℕ) → seek n rs q ≡ seek 0 rs (drop n q)
  unfolding seek
  seek_drop zero rs q = refl
  seek_drop (suc n) rs [] = refl
  seek_drop (suc n) rs (b ∷ q) = seek_drop n rs q

  first_some : (a o : Option K) → is_some a ≡ true → is_some (or_else a o) ≡ true
  first_some None o h = absurd (cc h)
  first_some (Some k) o h = refl

  second_some : (a o : Option K) → is_some o ≡ true → is_some (or_else a o) ≡ true
  second_some None o h = h
  second_some (Some k) o h = refl

  whole_param : (rs : RowsOf K) (b : ℕ) (q : List ℕ) → AllWhole rs → AllTails rs → AllWhole (param_step rs (b ∷ q)).1
  whole_param rs b q whole tails = at_byte (b == 47) refl
    where
      at_slash : (v : Bool) → (b == 47) ≡ false → has_slash q ≡ v → AllWhole (param_step rs (b ∷ q)).1
      at_slash false e slash = rw (param_last rs b q e slash tails) whole
      at_slash true e slash = elim (longest_either (b ∷ segment q) rs (cut_there b q slash) tails) [
        | inl longest ↦ rw (param_goes rs b q e longest) (whole_with (47 ∷ []) rs whole)
        | inr longest ↦ rw (param_stops rs b q e slash longest) tt
      ]

      at_byte : (v : Bool) → (b == 47) ≡ v → AllWhole (param_step rs (b ∷ q)).1
      at_byte true e = let is : b ≡ 47 = grind (arith, nat_tests) in rw (is, param_empty rs q tails) tt
      at_byte false e = at_slash (has_slash q) e refl

  finds_at : (n : ℕ) → ((rs : RowsOf K) (path p : List ℕ) (k : K) → length path ≤ n → AllWhole rs → Has p k rs → is_whole p ≡ true → fits p path ≡ true → is_some (seek 0 rs path) ≡ true) → (rs : RowsOf K) (b : ℕ) (q : List ℕ) (x : ℕ) (p : List ℕ) (k : K) → length q ≤ n → AllWhole rs → Has (x ∷ p) k rs → is_whole (x ∷ p) ≡ true → fits (x ∷ p) (b ∷ q) ≡ true → (v w : Bool) → (x == 256) ≡ v → (x == b) ≡ w → is_some (seek 0 rs (b ∷ q)) ≡ true
  unfolding seek
  finds_at n ih rs b q x p k small whole has shape fit false true e f =
      let is : x ≡ b = grind (arith, nat_tests) in
      let rest : fits p q ≡ true = rw (e, f) at fit in
      first_some (seek 0 (step b rs) q) _ (ih (step b rs) q p k small (whole_step b rs whole) (step_has b p k rs (subst (λ (z : ℕ). Has (z ∷ p) k rs) is has)) (whole_tail x p shape) rest)
  finds_at n ih rs b q x p k small whole has shape fit false false e f = let bad : false ≡ true = rw (e, f) at fit in absurd (cc bad)
  finds_at n ih rs b q x p k small whole has shape fit true w e f = at_slash (b == 47) refl
    where
      is : x ≡ 256
      is = grind (arith, nat_tests, e)

      at_slash : (v : Bool) → (b == 47) ≡ v → is_some (seek 0 rs (b ∷ q)) ≡ true
      at_slash true g = let bad : false ≡ true = rw (e, g) at fit in absurd (cc bad)
      at_slash false g =
          let rest : fits p (after_segment q) ≡ true = rw (e, g) at fit in
          let has256 = step_has 256 p k rs (subst (λ (z : ℕ). Has (z ∷ p) k rs) is has) in
          let well : begins_well p ≡ true = whole_begins p (subst (λ (z : ℕ). is_whole (z ∷ p) ≡ true) is shape) in
          let tails = tails_step rs whole in
          let (kept, goes) = param_has (step 256 rs) b q p k tails g well has256 rest in
          let found = ih (param_step (step 256 rs) (b ∷ q)).1 (after_segment q) p k (omega (arith, length_after q)) (whole_param (step 256 rs) b q (whole_step 256 rs whole) tails) kept (whole_tail x p shape) rest in
          second_some (seek 0 (step b rs) q) _ (first_some (seek ((param_step (step 256 rs) (b ∷ q)).0 - 1) (param_step (step 256 rs) (b ∷ q)).1 q) (own (step 257 rs)) (rw (seek_drop ((param_step (step 256 rs) (b ∷ q)).0 - 1) (param_step (step 256 rs) (b ∷ q)).1 q, goes) found))

  finds : (n : ℕ) → (rs : RowsOf K) (path p : List ℕ) (k : K) → length path ≤ n → AllWhole rs → Has p k rs → is_whole p ≡ true → fits p path ≡ true → is_some (seek 0 rs path) ≡ true
  unfolding seek
  finds n rs [] [] k small whole has shape fit = own_has k rs has
  finds n rs [] (x ∷ p) k small whole has shape fit = absurd (cc fit)
  finds zero rs (b ∷ q) p k small whole has shape fit = absurd (omega arith)
  finds (suc n) rs (b ∷ q) [] k small whole has shape fit = let bad : (length (b ∷ q) == 0) ≡ false = grind (arith, nat_tests) in absurd (cc (sym fit ∙ bad))
  finds (suc n) rs (b ∷ q) (x ∷ p) k small whole has shape fit = finds_at n (finds n) rs b q x p k (omega arith) whole has shape fit (x == 256) (x == b) refl refl

  -- A path that fits a pattern of the rows has a route.
  pub first_finds : (rs : RowsOf K) (path p : List ℕ) (k : K) → AllWhole rs → Has p k rs → is_whole p ≡ true → fits p path ≡ true → is_some (first rs path) ≡ true
  first_finds rs path p k = finds (length path) rs path p k (omega arith)

  -- ---- and only such a path

  -- a row that the path fits
  abbrev pub Fitting : RowsOf K → List ℕ → K → Type 0
  Fitting rs path k = (p : List ℕ) × Has p k rs × (fits p path ≡ true)

  which : (a o : Option K) (k : K) → or_else a o ≡ Some k → (a ≡ Some k) ⊎ (o ≡ Some k)
  which None o k h = inr h
  which (Some j) o k h = inl h

  param_fitting : (rs : RowsOf K) (b : ℕ) (q : List ℕ) (k : K) → AllWhole rs → (p : List ℕ) → Has p k (param_step (step 256 rs) (b ∷ q)).1 → fits p (drop ((param_step (step 256 rs) (b ∷ q)).0 - 1) q) ≡ true → Fitting rs (b ∷ q) k
  param_fitting rs b q k whole p has fit =
      let (other, has256, goes) = has_param (step 256 rs) b q p k (tails_step rs whole) has in
      let rest : fits p (after_segment q) ≡ true = rw goes at fit in
      (256 ∷ p, has_step 256 p k rs has256, rw other rest)

  sound_at : (n : ℕ) → ((rs : RowsOf K) (path : List ℕ) (k : K) → length path ≤ n → AllWhole rs → All (λ c. c < 256) path → seek 0 rs path ≡ Some k → Fitting rs path k)
      → (rs : RowsOf K) (b : ℕ) (q : List ℕ) (k : K) → length q ≤ n → AllWhole rs → b < 256 → All (λ c. c < 256) q → seek 0 rs (b ∷ q) ≡ Some k → Fitting rs (b ∷ q) k
  unfolding seek
  sound_at n ih rs b q k small whole low lows h = elim (which (seek 0 (step b rs) q) _ k h) [
    | inl first_part ↦
        let (p, has, fit) = ih (step b rs) q k small (whole_step b rs whole) lows first_part in
        let same : (b == b) ≡ true = grind (arith, nat_tests) in
        (b ∷ p, has_step b p k rs has, rw (below_256 b low, same) fit)
    | inr second_part ↦ by_param (which (seek ((param_step (step 256 rs) (b ∷ q)).0 - 1) (param_step (step 256 rs) (b ∷ q)).1 q) _ k second_part)
  ]
    where
      tails : AllTails (step 256 rs)
      tails = tails_step rs whole

      by_param : (seek ((param_step (step 256 rs) (b ∷ q)).0 - 1) (param_step (step 256 rs) (b ∷ q)).1 q ≡ Some k) ⊎ (own (step 257 rs) ≡ Some k) → Fitting rs (b ∷ q) k
      by_param (inr none) = let bad : ◌≡◌ {A = Option K} None (Some k) = rw (no_catch_all rs whole) at none in absurd (cc bad)
      by_param (inl found) =
          let n0 = (param_step (step 256 rs) (b ∷ q)).0 - 1 in
          let there : seek 0 (param_step (step 256 rs) (b ∷ q)).1 (drop n0 q) ≡ Some k = sym (seek_drop n0 (param_step (step 256 rs) (b ∷ q)).1 q) ∙ found in
          let fitting = ih (param_step (step 256 rs) (b ∷ q)).1 (drop n0 q) k (omega (arith, length-drop n0 q)) (whole_param (step 256 rs) b q (whole_step 256 rs whole) tails) (All-drop (λ c. c < 256) n0 q lows) there in
          param_fitting rs b q k whole fitting.0 fitting.1 fitting.2

  sound : (n : ℕ) (rs : RowsOf K) (path : List ℕ) (k : K) → length path ≤ n → AllWhole rs → All (λ c. c < 256) path → seek 0 rs path ≡ Some k → Fitting rs path k
  unfolding seek
  sound n rs [] k small whole lows h = ([], has_own k rs h, refl)
  sound zero rs (b ∷ q) k small whole lows h = absurd (omega arith)
  sound (suc n) rs (b ∷ q) k small whole lows h = sound_at n (sound n) rs b q k (omega arith) whole (All-head (λ c. c < 256) b q lows) (All-tail (λ c. c < 256) b q lows) h

  -- What a walk finds is a row whose pattern the path fits.
  pub first_sound : (rs : RowsOf K) (path : List ℕ) (k : K) → AllWhole rs → All (λ c. c < 256) path → first rs path ≡ Some k → Fitting rs path k
  first_sound rs path k = sound (length path) rs path k (omega arith)
