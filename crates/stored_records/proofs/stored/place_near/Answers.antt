use Rattle.std.proofs.Common.{refl}
use Rattle.stored_records.proofs.Nearer.{place_further}
use Rattle.stored_records.proofs.stored.place_near.Goals as goal

pub returns-then-is_between : goal.returns-then-is_between
returns-then-is_between c =
    let between = c.if-is_between.ensures in
    place_further c.args.rows.now c.args.first c.args.end (between.low refl) (between.high refl) c.requires.rise c.args.key c.place_in.result c.place_in.ensures (between.before refl) (between.behind refl)
