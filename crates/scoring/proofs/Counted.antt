-- Counts of a list as one element comes for another.
use Rattle.std.proofs.Common.{◌≡◌, ℕ, zero, suc, ◌-◌, ◌≤◌, ◌<◌, ◌+◌, Bool, cond, List, ◌∷◌, ◌++◌, drop, length, get_or, refl, ◌∙◌, ap, arith}
use Rattle.std.specs.List.{count_by}
use Rattle.std.proofs.lemmas.List.Sums.{sum_by-append, sum_by-cons}
use Rattle.std.proofs.lemmas.List.{drop_more}
use Rattle.rule_book.specs.Teams.{starters}
use Rattle.scoring.specs.Ones.{one_if}

pub counted_with : (p : ℕ → Bool) (before after : List ℕ) (s : ℕ) → count_by p (before ++ s ∷ after) ≡ count_by p before + (one_if (p s) + count_by p after)
counted_with p before after s =
    sum_by-append (λ x. cond (p x) 1 0) before (s ∷ after) ∙ ap (λ m. count_by p before + m) (sum_by-cons (λ x. cond (p x) 1 0) s after)

pub swapped : (p : ℕ → Bool) (before after : List ℕ) (n s : ℕ) → count_by p (before ++ s ∷ after) + one_if (p n) ≡ count_by p (before ++ n ∷ after) + one_if (p s)
swapped p before after n s = omega (arith, counted_with p before after s, counted_with p before after n)

-- a count after slot x came for starter n
pub count_after : (test : ℕ → Bool) (before after : List ℕ) (n x was now : ℕ) → was ≡ count_by test (before ++ n ∷ after) → now + one_if (test n) ≡ was + one_if (test x) → now ≡ count_by test (before ++ x ∷ after)
count_after test before after n x was now e step = omega (arith, e, step, swapped test before after n x)

pub starter_from : (k : ℕ) → k < 11 → get_or starters k 0 ≡ k + 1
starter_from zero l = refl
starter_from (suc zero) l = refl
starter_from (suc (suc zero)) l = refl
starter_from (suc (suc (suc zero))) l = refl
starter_from (suc (suc (suc (suc zero)))) l = refl
starter_from (suc (suc (suc (suc (suc zero))))) l = refl
starter_from (suc (suc (suc (suc (suc (suc zero)))))) l = refl
starter_from (suc (suc (suc (suc (suc (suc (suc zero))))))) l = refl
starter_from (suc (suc (suc (suc (suc (suc (suc (suc zero)))))))) l = refl
starter_from (suc (suc (suc (suc (suc (suc (suc (suc (suc zero))))))))) l = refl
starter_from (suc (suc (suc (suc (suc (suc (suc (suc (suc (suc zero)))))))))) l = refl
starter_from (suc (suc (suc (suc (suc (suc (suc (suc (suc (suc (suc k))))))))))) l = absurd (omega arith)

-- the starters from n on are n and those behind him
pub starters_at : (n : ℕ) → 1 ≤ n → n ≤ 11 → drop (n - 1) starters ≡ n ∷ drop n starters
starters_at n low high =
    let e : n - 1 + 1 ≡ n = omega arith in
    let in_list : n - 1 < length starters = omega arith in
    drop_more starters (n - 1) 0 in_list
    ∙ ap (λ m. get_or starters (n - 1) 0 ∷ drop m starters) e
    ∙ ap (λ m. m ∷ drop n starters) (starter_from (n - 1) (omega arith) ∙ e)
