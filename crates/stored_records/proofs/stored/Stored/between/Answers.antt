use Rattle.std.proofs.Common.{arith, ◌∙◌}
use Rattle.stored_records.proofs.Found.{between_places}
use Rattle.stored_records.proofs.stored.Stored.between.Goals as goal

pub returns-then-first-end : goal.returns-then-first-end
returns-then-first-end c =
    between_places c.args.self.now c.args.low c.args.high c.place_of-first.result c.place_of-end.result c.place_of-first.ensures c.place_of-end.ensures

pub returns-else-first-end : goal.returns-else-first-end
returns-else-first-end c =
    omega (arith, c.if-first-end.false) ∙ between_places c.args.self.now c.args.low c.args.high c.place_of-first.result c.place_of-end.result c.place_of-first.ensures c.place_of-end.ensures
