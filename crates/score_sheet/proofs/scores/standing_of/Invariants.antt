use Rattle.std.proofs.Common.{◌≡◌, map, filter, take}
use Rattle.score_sheet.proofs.ScoreLists.{took_part, entry_of}
use Rattle.score_sheet.proofs.scores.standing_of.Given as goal

abbrev pub invariant-loop-row : goal.invariant-loop-row
invariant-loop-row l = l.table.items ≡ map entry_of (filter took_part (take l.row-index l.rows))
