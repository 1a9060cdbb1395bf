-- What is found of sheets once another stands in place of one.
use Rattle.std.proofs.Common.{ℕ, ◌≡◌, Bool, true, false, [], ◌∷◌, length, arith, refl, sym, ap, ◌∙◌, unwrap_or, if◌then◌else◌}
use Rattle.std.proofs.lemmas.Bool.Decides.{nat_tests}
use Rattle.rule_book.specs.ById.{at_id, placed_at}
use Rattle.rule_book.specs.MatchFacts.{Lines, Sheet, bare_sheet, sheet_of, tells_facts, MatchFacts}
use Rattle.rule_book.proofs.AtId.{one_other, one_same, placed_other, placed_same}

no_lines : (lines : Lines) → length lines ≡ 0 → lines ≡ []
no_lines [] e = refl
no_lines (row ∷ lines) e = absurd (omega arith)

-- a sheet that tells nothing is the bare one
bare : (sheet : Sheet) → tells_facts sheet ≡ false → sheet ≡ bare_sheet
bare sheet e =
    let not_finished : sheet.finished ≡ false = grind (arith, nat_tests, e) in
    let none : length sheet.lines ≡ 0 = grind (arith, nat_tests, e) in
    λ i. record { lines = no_lines sheet.lines none i; finished = not_finished i }

module _ (facts : MatchFacts) (fixture : ℕ) (sheet : Sheet) where
  pub found_same : (b : Bool) → tells_facts sheet ≡ b → unwrap_or (at_id (placed_at facts fixture (if b then (fixture, sheet) ∷ [] else [])) fixture) bare_sheet ≡ sheet
  found_same true e = ap (λ o. unwrap_or o bare_sheet) (placed_same facts ((fixture, sheet) ∷ []) fixture ∙ one_same fixture sheet)
  found_same false e = ap (λ o. unwrap_or o bare_sheet) (placed_same facts [] fixture) ∙ sym (bare sheet e)

  pub found_other : (b : Bool) (other : ℕ) → (other ≡ fixture → ⊥) → unwrap_or (at_id (placed_at facts fixture (if b then (fixture, sheet) ∷ [] else [])) other) bare_sheet ≡ sheet_of facts other
  found_other true other apart = ap (λ o. unwrap_or o bare_sheet) (placed_other facts ((fixture, sheet) ∷ []) fixture other apart (one_other fixture other sheet apart))
  found_other false other apart = ap (λ o. unwrap_or o bare_sheet) (placed_other facts [] fixture other apart refl)
