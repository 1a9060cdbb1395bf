use Rattle.std.proofs.Common.{◌≡◌, drop}
use Rattle.rule_book.specs.MatchFacts.{line_in}
use Rattle.season_cells.proofs.sheets.line_among.Given as goal

-- he has the line that he has among those that are left
abbrev pub invariant-loop-row : goal.invariant-loop-row
invariant-loop-row l = line_in l.lines l.player ≡ line_in (drop l.row-index l.lines) l.player
