-- A choice of rows that is even takes the best of each position.
use Rattle.std.proofs.Common.{◌≡◌, ◌≢◌, ◌∙◌, sym, refl, ap, ℕ, ◌<◌, ◌≤◌, Bool, true, false, ◌&&◌, ◌==◌, List, get_or, nat_lt, inl, inr, ◌⊎◌, Contains, count_by}
use Rattle.std.proofs.lemmas.Bool.{and_parts, and_from, and_right, lt-ltb, le-ltb, eq-eqb, cases_Bool}
use Rattle.std.proofs.lemmas.List.Elements.{Contains-get_or}
use Rattle.fpl_base.specs.declared.kinds.Position.{Position}
use Rattle.fpl_base.specs.declared.kinds.Position.TheVariants.{Keeper, Defender, Midfielder, Forward}
use Rattle.rule_book.specs.Positions.{is_keeper, is_defender, is_midfielder, is_forward}
use Rattle.rule_book.specs.Scoring.{by_position}
use Rattle.squad_rules.specs.Dreams.{place_of}
use Rattle.squad_rules.specs.Elevens.{Row, IsEven, chosen, count_in, is_better}
use Rattle.season_book.specs.TeamOfTheWeek.{Formation, best_in, number_better, wanted}
use Rattle.live_windows.proofs.Better.{not_better_itself, one_is_better, place_same}
use Rattle.live_windows.proofs.Counts.{Within, count_alike, count_kept, count_le, count_less, kept_alike}

abbrev pub same_place : Row → Row → Bool
same_place row other = place_of other.1 == place_of row.1

module _ (rows : List Row) (choice : ℕ → Bool) (even : IsEven choice rows) where
  abbrev taken : Row → Row → Bool
  taken row other = choice other.0 && same_place row other

  abbrev above : Row → Row → Bool
  above row other = same_place row other && is_better other row

  -- above one who is taken stand fewer than are taken
  taken_above : (row : Row) → Contains rows row → choice row.0 ≡ true → number_better rows row < count_by (taken row) rows
  taken_above row there e =
      count_less (above row) (taken row) rows row within there (and_right (same_place row row) (is_better row row) (not_better_itself row))
      (and_from (choice row.0) (same_place row row) e (eq-eqb (place_of row.1) (place_of row.1) refl))
    where
      within : Within (above row) (taken row) rows
      within k d lt f =
          let other = get_or rows k d in
          let parts = and_parts (same_place row other) (is_better other row) f in
          let is = even other row (Contains-get_or rows k d lt) there (place_same row.1 other.1 parts.0) parts.1 e in
          and_from (choice other.0) (same_place row other) is parts.0

  -- above one who is not stand all who are
  left_above : (row : Row) → Contains rows row → choice row.0 ≡ false → count_by (taken row) rows ≤ number_better rows row
  left_above row there e = count_le (taken row) (above row) rows within
    where
      within : Within (taken row) (above row) rows
      within k d lt f = go (cases_Bool (is_better other row))
        where
          other : Row
          other = get_or rows k d

          parts : (choice (get_or rows k d).0 ≡ true) × (same_place row (get_or rows k d) ≡ true)
          parts = and_parts (choice (get_or rows k d).0) (same_place row (get_or rows k d)) f

          apart : (get_or rows k d).0 ≢ row.0
          apart same = absurd (cc (sym (ap choice same) ∙ parts.0, e))

          go : (is_better (get_or rows k d) row ≡ true) ⊎ (is_better (get_or rows k d) row ≡ false) → above row (get_or rows k d) ≡ true
          go (inl better) = and_from (same_place row (get_or rows k d)) (is_better (get_or rows k d) row) parts.1 better
          go (inr worse) =
              let better = one_is_better (get_or rows k d) row apart worse in
              let is = even row (get_or rows k d) there (Contains-get_or rows k d lt) (sym (place_same row.1 (get_or rows k d).1 parts.1)) better parts.0 in
              absurd (cc (is, e))

  counted : (row : Row) → count_by (same_place row) (chosen choice rows) ≡ count_by (taken row) rows
  counted row = count_kept (same_place row) (λ (r : Row). choice r.0) rows

  -- who is taken has fewer above him than are taken of his position
  pub taken_is : (row : Row) → Contains rows row → nat_lt (number_better rows row) (count_by (same_place row) (chosen choice rows)) ≡ choice row.0
  taken_is row there = go (cases_Bool (choice row.0))
    where
      go : (choice row.0 ≡ true) ⊎ (choice row.0 ≡ false) → nat_lt (number_better rows row) (count_by (same_place row) (chosen choice rows)) ≡ choice row.0
      go (inl e) =
          ap (λ n. nat_lt (number_better rows row) n) (counted row) ∙ lt-ltb (number_better rows row) (count_by (taken row) rows) (taken_above row there e) ∙ sym e
      go (inr e) =
          ap (λ n. nat_lt (number_better rows row) n) (counted row) ∙ le-ltb (number_better rows row) (count_by (taken row) rows) (left_above row there e) ∙ sym e

-- how many stand at a position
pub count_at : (p : Position) (xs : List Row)
    → count_by (λ other. place_of other.1 == place_of p) xs ≡ by_position (count_in is_keeper xs) (count_in is_defender xs) (count_in is_midfielder xs) (count_in is_forward xs) p
count_at Keeper xs = count_alike (λ (r : Row). place_of r.1 == 0) (λ (r : Row). is_keeper r.1) xs (λ k d lt. same (get_or xs k d).1)
  where
    same : (q : Position) → (place_of q == 0) ≡ is_keeper q
    same Keeper = refl
    same Defender = refl
    same Midfielder = refl
    same Forward = refl
count_at Defender xs = count_alike (λ (r : Row). place_of r.1 == 1) (λ (r : Row). is_defender r.1) xs (λ k d lt. same (get_or xs k d).1)
  where
    same : (q : Position) → (place_of q == 1) ≡ is_defender q
    same Keeper = refl
    same Defender = refl
    same Midfielder = refl
    same Forward = refl
count_at Midfielder xs = count_alike (λ (r : Row). place_of r.1 == 2) (λ (r : Row). is_midfielder r.1) xs (λ k d lt. same (get_or xs k d).1)
  where
    same : (q : Position) → (place_of q == 2) ≡ is_midfielder q
    same Keeper = refl
    same Defender = refl
    same Midfielder = refl
    same Forward = refl
count_at Forward xs = count_alike (λ (r : Row). place_of r.1 == 3) (λ (r : Row). is_forward r.1) xs (λ k d lt. same (get_or xs k d).1)
  where
    same : (q : Position) → (place_of q == 3) ≡ is_forward q
    same Keeper = refl
    same Defender = refl
    same Midfielder = refl
    same Forward = refl

-- rows have as many of each position as a formation
pub record IsShaped (shape : Formation) (xs : List Row) : Type 0 where
  pub keeper : count_in is_keeper xs ≡ 1
  pub defenders : count_in is_defender xs ≡ shape.defenders
  pub midfielders : count_in is_midfielder xs ≡ shape.midfielders
  pub forwards : count_in is_forward xs ≡ shape.forwards

pub wanted_is : (shape : Formation) (xs : List Row) (p : Position) → IsShaped shape xs → count_by (λ other. place_of other.1 == place_of p) xs ≡ wanted shape p
wanted_is shape xs p is = count_at p xs ∙ (λ i. by_position (is.keeper i) (is.defenders i) (is.midfielders i) (is.forwards i) p)

-- an even choice of a shape takes the best of it
pub best_is : (rows : List Row) (choice : ℕ → Bool) (shape : Formation) → IsEven choice rows → IsShaped shape (chosen choice rows) → best_in rows shape ≡ chosen choice rows
best_is rows choice shape even is =
    kept_alike (λ (row : Row). nat_lt (number_better rows row) (wanted shape row.1)) (λ (row : Row). choice row.0) rows
    (λ k d lt. let row = get_or rows k d in
    ap (λ n. nat_lt (number_better rows row) n) (sym (wanted_is shape (chosen choice rows) row.1 is)) ∙ taken_is rows choice even row (Contains-get_or rows k d lt))
