use Rattle.std.proofs.Common.{ap, arith}
use Rattle.std.proofs.lemmas.Bool.Decides.{nat_tests}
use Rattle.fpl_base.specs.declared.records.RecordKey.{RecordKey}
use Rattle.season_restoring.proofs.Rows.{others_stay}
use Rattle.season_restoring.proofs.fact_parts.Parts.take_row.Goals as goal

pub returns-then-key-gt-LAST_KIND : goal.returns-then-key-gt-LAST_KIND
returns-then-key-gt-LAST_KIND c =
    let kind = ap (λ (k : RecordKey). k.kind) c.key.ensures in
    others_stay c.args.self.now c.args.row.now (grind (arith, nat_tests, kind, c.if-key-gt-LAST_KIND.true))
