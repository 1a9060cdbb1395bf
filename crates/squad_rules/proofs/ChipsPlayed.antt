-- Where a chip was played.
use Rattle.std.proofs.Common.{◌≡◌, ◌<◌, ◌≤◌, ◌+◌, ◌-◌, ℕ, zero, suc, true, Some, None, arith, refl, ap, ◌∙◌}
use Rattle.fpl_base.specs.declared.kinds.Chip.{Chip}
use Rattle.rule_book.specs.HistoryTransfers.{is_same_chip, chip_among}

-- the first that has it
among_here : (chips : ℕ → Chip) (chip : Chip) (from k : ℕ) → chip_among chips chip from k ≡ None → is_same_chip chip (chips (from + k)) ≡ true → chip_among chips chip from (suc k) ≡ Some (from + k)
among_here chips chip from k n t = rw (n, t) refl

-- later ones change nothing
among_stays : (chips : ℕ → Chip) (chip : Chip) (from k g j : ℕ) → chip_among chips chip from k ≡ Some g → chip_among chips chip from (k + j) ≡ Some g
among_stays chips chip from k g zero e = let x : k + 0 ≡ k = omega arith in rw x e
among_stays chips chip from k g (suc j) e = let x : k + suc j ≡ suc (k + j) = omega arith in let i : chip_among chips chip from (k + j) ≡ Some g = among_stays chips chip from k g j e in rw (x, i) refl

pub among_found : (chips : ℕ → Chip) (chip : Chip) (from w g : ℕ) → from ≤ w → w < g → chip_among chips chip from (w - from) ≡ None → is_same_chip chip (chips w) ≡ true → chip_among chips chip from (g - from) ≡ Some w
among_found chips chip from w g le lt n t =
    let at : from + (w - from) ≡ w = omega arith in
    let here : chip_among chips chip from (suc (w - from)) ≡ Some w = among_here chips chip from (w - from) n (rw at t) ∙ ap Some at in
    let all : g - from ≡ suc (w - from) + (g - suc w) = omega arith in
    rw all (among_stays chips chip from (suc (w - from)) w (g - suc w) here)

-- chips that agree are found alike
pub among_agree : (c d : ℕ → Chip) (chip : Chip) (from k : ℕ) → ((g : ℕ) → c g ≡ d g) → chip_among c chip from k ≡ chip_among d chip from k
among_agree c d chip from zero e = refl
among_agree c d chip from (suc k) e = let i : chip_among c chip from k ≡ chip_among d chip from k = among_agree c d chip from k e in rw (i, e (from + k)) refl
