-- What a member has of its matches without the last one.
use Rattle.std.proofs.Common.{◌≡◌, ◌≤◌, ◌+◌, ◌-◌, ℕ, ℤ, map, arith, sym, ap, ◌∙◌}
use Rattle.std.specs.Prelude.{◌-ℤ◌}
use Rattle.std.specs.List.{range_with_len, sum_by}
use Rattle.std.proofs.lemmas.List.FromFn.{sum_by-map-range_with_len_more}
use Rattle.std.proofs.lemmas.Simd.{map-map}
use Rattle.rule_book.specs.HeadToHead.{match_points, total_of}
use Rattle.rule_book.specs.Totals.{gameweeks}
use Rattle.league_windows.proofs.TotalsBefore.{sum_less}

module _ (played : ℕ → ℤ × ℤ) (from last : ℕ) (one : 1 ≤ last) (le : from ≤ last) where
  -- match points without those of the last match
  pub points_less : sum_by (λ m. match_points m.0 m.1) (map played (gameweeks from last)) - match_points (played last).0 (played last).1 ≡ sum_by (λ m. match_points m.0 m.1) (map played (gameweeks from (last - 1)))
  points_less =
      let points : ℤ × ℤ → ℕ = λ m. match_points m.0 m.1 in
      let count : ℕ = last - from in
      let now : (last + 1) - from ≡ count + 1 = omega (arith, le) in
      let then : (last - 1 + 1) - from ≡ count = omega (arith, one) in
      let more = sum_by-map-range_with_len_more points played from count last (omega (arith, le)) in
      let all = ap (λ n. sum_by points (map played (range_with_len from n))) now in
      let before = ap (λ n. sum_by points (map played (range_with_len from n))) then in
      omega (arith, more, all, before)

  -- points scored without those of the last match
  pub scored_less : total_of (map (λ m. m.0) (map played (gameweeks from last))) -ℤ (played last).0 ≡ total_of (map (λ m. m.0) (map played (gameweeks from (last - 1))))
  scored_less =
      ap (λ xs. total_of xs -ℤ (played last).0) (map-map (λ (m : ℤ × ℤ). m.0) played (gameweeks from last))
      ∙ sum_less (λ g. (played g).0) from last one le
      ∙ ap total_of (sym (map-map (λ (m : ℤ × ℤ). m.0) played (gameweeks from (last - 1))))
