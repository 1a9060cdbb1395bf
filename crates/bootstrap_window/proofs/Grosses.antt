-- The points of an entry before deductions, by its score.
use Rattle.std.proofs.Common.{◌≡◌, ◌∙◌, ℕ, Bool, true, false, List, [], Option, Some, None, ap, refl, if◌then◌else◌}
use Rattle.std.specs.Option.{option_map, option_map_or}
use Rattle.rule_book.specs.declared.team_score.TeamScore.{TeamScore}
use Rattle.rule_book.specs.Entries.{entry_in}
use Rattle.rule_book.specs.HistoryTeam.{is_begun}
use Rattle.season_book.specs.Book.{EntryFacts, Facts}
use Rattle.season_book.specs.EntryViews.{score_by}
use Rattle.season_book.specs.LeagueViews.{history_of}
use Rattle.season_book.specs.EntryTotals.{gross_by, is_in}

gross_if : (b : Bool) (score : TeamScore) → option_map (λ (s : TeamScore). s.gross) (if b then Some score else None) ≡ (if b then Some score.gross else None)
gross_if true score = refl
gross_if false score = refl

-- what is held of the score of an entry tells its points
pub gross_of : (facts : Facts) (g : ℕ) (entries : List EntryFacts) (e : ℕ) (row : EntryFacts) (held : Option TeamScore) → entry_in entries e ≡ Some row
    → held ≡ (if is_begun (history_of entries e) g then Some (score_by facts (history_of entries e) g) else None)
    → option_map (λ (s : TeamScore). s.gross) held ≡ (if is_in row g then Some (gross_by facts row.history g) else None)
gross_of facts g entries e row held at is =
    ap (option_map (λ (s : TeamScore). s.gross))
    (is ∙ ap (λ o. let h = option_map_or (λ (entry : EntryFacts). entry.history) o [] in (if is_begun h g then Some (score_by facts h g) else None)) at)
    ∙ gross_if (is_begun row.history g) (score_by facts row.history g)
