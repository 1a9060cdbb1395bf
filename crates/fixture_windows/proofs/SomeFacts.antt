-- Those of a side who have some of a figure, row by row.
use Rattle.std.proofs.Common.{◌≡◌, ◌∙◌, sym, ap, refl, subst, ℕ, ℤ, ◌+◌, ◌<◌, ◌≢◌, Bool, true, false, cond, List, [], ◌∷◌, ◌++◌, AllPairs, append-nil, filter, get_or, length, map, take}
use Rattle.std.proofs.lemmas.List.{map-append, take_more}
use Rattle.std.proofs.lemmas.List.Elements.{filter-append}
use Rattle.std.proofs.lemmas.List.Kept.{AllPairs-filter}
use Rattle.std.proofs.lemmas.Simd.{map-map}
use Rattle.fixture_windows.specs.Appeared.{has_some, pair_of, some_told, value_at}
use Rattle.fixture_windows.specs.declared.appeared.Appeared.{Appeared}
use Rattle.fixture_windows.specs.declared.sides.Side.{Side}
use Rattle.fixture_windows.specs.declared.told.Told.{Told}
use Rattle.fixture_windows.proofs.ListFacts.{differ_mapped}

module _ (side : Side) (stat : ℕ) where
  abbrev pair_told : Appeared → ℕ × ℤ
  pair_told row = (row.player, value_at stat row)

  by_cond : (b : Bool) (row : Appeared) → map pair_told (cond b (row ∷ []) []) ≡ cond b (pair_told row ∷ []) []
  by_cond true row = refl
  by_cond false row = refl

  module _ (rows : List Appeared) (i : ℕ) (row : Appeared) (within : i < length rows) (is : row ≡ get_or rows i row) where
    one_more : some_told side stat (take (i + 1) rows) ≡ some_told side stat (take i rows) ++ cond (has_some side stat row) (pair_told row ∷ []) []
    one_more =
        ap (some_told side stat) (take_more rows i row within ∙ ap (λ r. take i rows ++ r ∷ []) (sym is))
        ∙ ap (map pair_told) (filter-append (has_some side stat) (take i rows) (row ∷ []))
        ∙ map-append pair_told (filter (has_some side stat) (take i rows)) (cond (has_some side stat row) (row ∷ []) [])
        ∙ ap (λ l. some_told side stat (take i rows) ++ l) (by_cond (has_some side stat row) row)

    pub some_more : (told : Told) (old new : List Told) → has_some side stat row ≡ true → pair_of told ≡ (row.player, value_at stat row) → map pair_of old ≡ some_told side stat (take i rows) → new ≡ old ++ told ∷ []
        → map pair_of new ≡ some_told side stat (take (i + 1) rows)
    some_more told old new holds pair so more =
        ap (map pair_of) more ∙ map-append pair_of old (told ∷ []) ∙ (λ j. so j ++ pair j ∷ [])
        ∙ ap (λ b. some_told side stat (take i rows) ++ cond b (pair_told row ∷ []) []) (sym holds) ∙ sym one_more

    pub some_less : (old : List Told) → has_some side stat row ≡ false → map pair_of old ≡ some_told side stat (take i rows) → map pair_of old ≡ some_told side stat (take (i + 1) rows)
    some_less old fails so =
        so ∙ sym (append-nil (some_told side stat (take i rows)))
        ∙ ap (λ b. some_told side stat (take i rows) ++ cond b (pair_told row ∷ []) []) (sym fails) ∙ sym one_more

  -- where players differ, so do those who have some
  pub some_differ : (rows : List Appeared) → AllPairs (λ (a b : Appeared). a.player ≢ b.player) rows → AllPairs (λ a b. a ≢ b) (map (λ (r : ℕ × ℤ). r.0) (some_told side stat rows))
  some_differ rows differ =
      subst (AllPairs (λ a b. a ≢ b)) (sym (map-map (λ (r : ℕ × ℤ). r.0) pair_told (filter (has_some side stat) rows)))
      (differ_mapped (λ (row : Appeared). row.player) (filter (has_some side stat) rows) (AllPairs-filter (λ (a b : Appeared). a.player ≢ b.player) (has_some side stat) rows differ))
