use Rattle.std.proofs.Common.{◌≡◌, ◌∷◌, List, ℕ, take}
use Rattle.fpl_reports.specs.Reports.{AreInstants, rows_text, season_header, season_rows}
use Rattle.fpl_reports.proofs.season_report.season_report.Given as goal

abbrev pub invariant-loop-deadline : goal.invariant-loop-deadline
invariant-loop-deadline l =
    (l.gameweek ≡ l.deadline-index)
    × (texts : List (List ℕ))
    × AreInstants texts (take l.deadline-index l.season.deadlines)
    × (l.report ≡ rows_text (season_header ∷ season_rows l.season.locked 1 texts))
