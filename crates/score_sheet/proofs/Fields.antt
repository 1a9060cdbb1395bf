-- Fields of a record, and figures that two readings of it share.
use Rattle.std.proofs.Common.{◌≡◌, ◌<◌, ◌^◌, ◌+◌, ◌-◌, ℕ, zero, suc, List, [], ◌∷◌, length, Some, None, Option, arith, sym, ap, ◌∙◌}
use Rattle.std.specs.List.{slice_index}
use Rattle.std.proofs.lemmas.Grind.{same_number_lists}
use Rattle.std.specs.Fmt.{decimal}
use Rattle.std.proofs.lemmas.Fmt.{decimal_injective}
use Rattle.csv.specs.Records.{field_at}
use Rattle.rule_book.specs.declared.line.Line.{Line}
use Rattle.fpl_base.specs.declared.rule.Rule.{Rule}
use Rattle.rule_book.specs.Figures.{line_range}
use Rattle.score_sheet.specs.Rows.{SpellsFigures}

-- a place below the number of fields has one
pub field_there : (fs : List (List ℕ)) (i : ℕ) → i < length fs → field_at fs i ≡ None → ⊥
unfolding field_at
field_there [] i h e = omega arith
field_there (f ∷ fs) zero h e = cc
field_there (f ∷ fs) (suc i) h e = field_there fs i (omega arith) e

pub none_some : {A : Type 0} {a : A} (o : Option A) → o ≡ None → o ≡ Some a → ⊥
none_some o p q = cc

pub same_some : {A : Type 0} {a b : A} (o : Option A) → o ≡ Some a → o ≡ Some b → a ≡ b
same_some o p q = cc

-- two lists of figures that the fields spell are the same
pub same_figures : (fs : List (List ℕ)) (a b : List ℕ) → SpellsFigures fs a 28 → SpellsFigures fs b 28 → (k : ℕ) → k < 28 → slice_index a k ≡ slice_index b k
same_figures fs a b p q k h =
    decimal_injective (slice_index a k) (slice_index b k) (omega (arith, (p k h).0)) (omega (arith, (q k h).0)) (same_some (field_at fs (k + 2)) (p k h).1 (q k h).1)

-- and so are two lines with these figures
pub same_lines : (fs : List (List ℕ)) (a b : Line) → length a.figures ≡ 28 → length b.figures ≡ 28 → SpellsFigures fs a.figures 28 → SpellsFigures fs b.figures 28 → a ≡ b
same_lines fs a b m n p q =
    let make : List ℕ → Line = λ figures. record { figures = figures } in
    ap make (same_number_lists a.figures b.figures (m ∙ sym n) (λ k h. same_figures fs a.figures b.figures p q k (omega (arith, m))))

-- so where one of them is refused, the other is too
pub refused_line : (fs : List (List ℕ)) (a b : Line) (rule : Rule) → line_range a ≡ Some rule → length a.figures ≡ 28 → length b.figures ≡ 28
    → SpellsFigures fs a.figures 28 → SpellsFigures fs b.figures 28 → line_range b ≡ None → ⊥
refused_line fs a b rule judged m n p q fine =
    let same : a ≡ b = same_lines fs a b m n p q in
    none_some {a = rule} (line_range b) fine (rw (← same) judged)

pub same_number : (bs : List ℕ) (m n : ℕ) → m < 2 ^ 64 → n < 2 ^ 64 → bs ≡ decimal m → bs ≡ decimal n → m ≡ n
same_number bs m n h k p q = decimal_injective m n (omega arith) (omega arith) (sym p ∙ q)
