use Rattle.std.proofs.Common.{◌≡◌, take, string_bytes}
use Rattle.std.specs.List.{flat_map}
use Rattle.rule_book.specs.Bonus.{bonus_in}
use Rattle.score_sheet.specs.Scores.{line_text}
use Rattle.score_sheet.proofs.scores.text_of.Given as goal

abbrev pub invariant-loop-row : goal.invariant-loop-row
invariant-loop-row l = string_bytes l.text ≡ flat_map (λ row. line_text l.profile row (bonus_in l.rows row)) (take l.row-index l.rows)
