-- What a member has of his matches, match by match.
use Rattle.std.proofs.Common.{ℕ, ℤ, pos, ◌≡◌, ◌∙◌, refl, sym, ap, ◌<◌, ◌+◌, cond, List, length, take, get_or, map}
use Rattle.std.specs.Prelude.{◌+ℤ◌, int_lt}
use Rattle.std.specs.Ordering.{int_eq}
use Rattle.std.proofs.lemmas.List.Folds.{fold-map}
use Rattle.std.proofs.lemmas.List.Sums.{fold_more, sum_by_more}
use Rattle.rule_book.specs.HeadToHead.{head_score, match_points, total_of}
use Rattle.leagues_and_cups.specs.Scores.{with_match}

scored_more : (ms : List (ℤ × ℤ)) (i : ℕ) (d : ℤ × ℤ) → i < length ms → total_of (map (λ m. m.0) (take (i + 1) ms)) ≡ total_of (map (λ m. m.0) (take i ms)) +ℤ (get_or ms i d).0
scored_more ms i d lt =
    fold-map ◌+ℤ◌ (λ (m : ℤ × ℤ). m.0) (pos 0) (take (i + 1) ms)
    ∙ fold_more (λ s (m : ℤ × ℤ). s +ℤ m.0) (pos 0) ms i d lt
    ∙ ap (λ s. s +ℤ (get_or ms i d).0) (sym (fold-map ◌+ℤ◌ (λ (m : ℤ × ℤ). m.0) (pos 0) (take i ms)))

-- with one match more
pub one_match_more : (ms : List (ℤ × ℤ)) (i : ℕ) (d : ℤ × ℤ) → i < length ms → head_score (take (i + 1) ms) ≡ with_match (head_score (take i ms)) (get_or ms i d)
one_match_more ms i d lt =
    let points = sum_by_more (λ (x : ℤ × ℤ). match_points x.0 x.1) ms i d lt in
    let won = sum_by_more (λ (x : ℤ × ℤ). cond (int_lt x.1 x.0) 1 0) ms i d lt in
    let drawn = sum_by_more (λ (x : ℤ × ℤ). cond (int_eq x.0 x.1) 1 0) ms i d lt in
    let lost = sum_by_more (λ (x : ℤ × ℤ). cond (int_lt x.0 x.1) 1 0) ms i d lt in
    let scored = scored_more ms i d lt in
    rw (points, won, drawn, lost, scored) refl
