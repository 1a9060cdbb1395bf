-- What is found of lines and sheets once others stand in place of some.
use Rattle.std.proofs.Common.{ℕ, Bool, [], ◌∷◌, Some, None, inl, inr, refl, sym, ap, ◌∙◌}
use Rattle.std.proofs.lemmas.Bool.{cases_eq}
use Rattle.rule_book.specs.ById.{at_id, placed_at}
use Rattle.rule_book.specs.MatchFacts.{tells_facts, with_sheet, sheet_of}
use Rattle.rule_book.proofs.AtId.{chosen_other, chosen_same, one_other, one_same, placed_other, placed_same}
use Rattle.match_facts.specs.Laws.{SheetsAreAMap, LinesAreAMap, LinesGo}
use Rattle.rule_book.proofs.SheetFacts.{found_other, found_same}

pub lines_are_a_map : LinesAreAMap
lines_are_a_map lines player line other = elim (cases_eq other player) [
  | inl same ↦
      ap (at_id (placed_at lines player ((player, line) ∷ []))) same
      ∙ placed_same lines ((player, line) ∷ []) player
      ∙ one_same player line
      ∙ sym (chosen_same player other (Some line) (at_id lines other) same)
  | inr apart ↦
      placed_other lines ((player, line) ∷ []) player other apart (one_other player other line apart)
      ∙ sym (chosen_other player other (Some line) (at_id lines other) apart)
]

pub lines_go : LinesGo
lines_go lines player other = elim (cases_eq other player) [
  | inl same ↦
      ap (at_id (placed_at lines player [])) same
      ∙ placed_same lines [] player
      ∙ sym (chosen_same player other None (at_id lines other) same)
  | inr apart ↦
      placed_other lines [] player other apart refl
      ∙ sym (chosen_other player other None (at_id lines other) apart)
]

pub sheets_are_a_map : SheetsAreAMap
sheets_are_a_map facts fixture sheet other = elim (cases_eq other fixture) [
  | inl same ↦
      ap (sheet_of (with_sheet facts fixture sheet)) same
      ∙ found_same facts fixture sheet (tells_facts sheet) refl
      ∙ sym (chosen_same fixture other sheet (sheet_of facts other) same)
  | inr apart ↦
      found_other facts fixture sheet (tells_facts sheet) other apart
      ∙ sym (chosen_other fixture other sheet (sheet_of facts other) apart)
]
