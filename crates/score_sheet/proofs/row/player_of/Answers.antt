use Rattle.std.proofs.Common.{arith, ◌≡◌}
use Rattle.std.proofs.lemmas.Bool.{false≢true}
use Rattle.score_sheet.proofs.Fields.{same_number}
use Rattle.score_sheet.proofs.row.player_of.Goals as goal

pub returns-in-None : goal.returns-in-None
returns-in-None c = λ n low high e.
    let read = c.in_ok-value.ensures in
    let same : c.in_ok-value.value ≡ n = same_number c.args.field.now c.in_ok-value.value n (omega arith) (omega arith) read.1 e in
    false≢true (c.in-None.ensures.there.1 (omega arith, omega arith))
