-- What is found of lines and sheets once others stand in place of some.
use Rattle.std.proofs.Common.{ℕ, ◌≡◌, ◌==◌, Bool, false, [], ◌∷◌, None, fold, inl, inr, arith, refl, sym, ap, subst, ◌∙◌}
use Rattle.std.specs.List.{list_any}
use Rattle.std.proofs.lemmas.Bool.Decides.{nat_tests}
use Rattle.std.proofs.lemmas.Bool.{cases_eq}
use Rattle.rule_book.specs.declared.line.Line.{Line}
use Rattle.rule_book.specs.MatchFacts.{Lines, Sheet, by_player, line_in, players_in, tells_facts, MatchFacts, with_line, with_sheet, without_line, sheet_of}
use Rattle.rule_book.proofs.AtId.{one_other, placed_other}
use Rattle.rule_book.proofs.SheetFacts.{found_other, found_same}

-- another player's line stays
pub line_beside : (lines : Lines) (p : ℕ) (line : Line) (q : ℕ) → (q ≡ p → ⊥) → line_in lines q ≡ line_in (with_line lines p line) q
line_beside lines p line q apart = sym (placed_other lines ((p, line) ∷ []) p q apart (one_other p q line apart))

pub line_besides : (lines : Lines) (p q : ℕ) → (q ≡ p → ⊥) → line_in lines q ≡ line_in (without_line lines p) q
line_besides lines p q apart = sym (placed_other lines [] p q apart refl)

-- a player among none of the lines has none, and has none once they were put in
pub no_line : (q : ℕ) (lines : Lines) → list_any (λ p. p == q) (players_in lines) ≡ false → line_in lines q ≡ None
no_line q [] none = refl
no_line q (row ∷ lines) none = grind (arith, nat_tests, none, no_line q lines)

no_line_put : (q : ℕ) (lines so_far : Lines) → line_in so_far q ≡ None → list_any (λ p. p == q) (players_in lines) ≡ false
    → line_in (fold (λ so_far row. with_line so_far row.0 row.1) so_far lines) q ≡ None
no_line_put q [] so_far none apart = none
no_line_put q (row ∷ lines) so_far none apart =
    no_line_put q lines (with_line so_far row.0 row.1)
    (sym (line_beside so_far row.0 row.1 q (λ same. grind (arith, nat_tests, apart, same))) ∙ none)
    (grind (arith, nat_tests, apart))

pub no_line_by_player : (q : ℕ) (lines : Lines) → list_any (λ p. p == q) (players_in lines) ≡ false → line_in (by_player lines) q ≡ None
no_line_by_player q lines apart = no_line_put q lines [] refl apart

-- what is looked at in a fixture's sheet stays where the new sheet of a fixture shows the same
pub sheet_kept : {Y : Type 0} (look : Sheet → Y) (m : MatchFacts) (f : ℕ) (sheet : Sheet) (g : ℕ) → (g ≡ f → look (sheet_of m g) ≡ look sheet)
    → look (sheet_of m g) ≡ look (sheet_of (with_sheet m f sheet) g)
sheet_kept look m f sheet g same = elim (cases_eq g f) [
  | inl here ↦ same here ∙ sym (ap look (ap (sheet_of (with_sheet m f sheet)) here ∙ found_same m f sheet (tells_facts sheet) refl))
  | inr apart ↦ sym (ap look (found_other m f sheet (tells_facts sheet) g apart))
]

-- what holds of the new sheet, and of the others, holds of each
pub sheet_by : (P : Sheet → Type 0) (m : MatchFacts) (f : ℕ) (sheet : Sheet) (g : ℕ) → (g ≡ f → P sheet) → P (sheet_of m g) → P (sheet_of (with_sheet m f sheet) g)
sheet_by P m f sheet g new old = elim (cases_eq g f) [
  | inl here ↦ subst P (sym (ap (sheet_of (with_sheet m f sheet)) here ∙ found_same m f sheet (tells_facts sheet) refl)) (new here)
  | inr apart ↦ subst P (sym (found_other m f sheet (tells_facts sheet) g apart)) old
]
