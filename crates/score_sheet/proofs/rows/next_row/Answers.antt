use Rattle.std.proofs.Common.{arith, ◌∙◌, sym}
use Rattle.csv.specs.Records.{fields_of}
use Rattle.score_sheet.proofs.RowLists.{player_not_new}
use Rattle.score_sheet.proofs.rows.next_row.Goals as goal
use Rattle.score_sheet.proofs.rows.next_row.Goals.{then-rows-ge-MAX_ROWS-via-then-rows-ge-MAX_ROWS, then-rows-ge-MAX_ROWS-via-else-rows-ge-MAX_ROWS+then-has_player}

pub returns-then-rows-ge-MAX_ROWS-clause-row : goal.returns-then-rows-ge-MAX_ROWS-clause-row
returns-then-rows-ge-MAX_ROWS-clause-row c = λ row adds.
    elim c.then-rows-ge-MAX_ROWS.branch [
      | then-rows-ge-MAX_ROWS-via-then-rows-ge-MAX_ROWS w ↦ omega (arith, adds.few, w.if-rows-ge-MAX_ROWS.true)
      | then-rows-ge-MAX_ROWS-via-else-rows-ge-MAX_ROWS+then-has_player w ↦ player_not_new c.args.rows.now (fields_of c.args.read.now) c.in_ok-row.row row c.in_ok-row.ensures.row.0 adds (sym w.has_player.ensures ∙ w.if-has_player.true)
    ]
