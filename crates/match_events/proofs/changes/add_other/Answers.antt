use Rattle.std.proofs.lemmas.Result.{on_ok_weaker}
use Rattle.match_events.specs.Sheets.{IsOther}
use Rattle.match_events.proofs.PlaceLemmas.{all_put}
use Rattle.match_events.proofs.changes.add_other.Goals as goal

pub returns-then-is_other-clause-differ : goal.returns-then-is_other-clause-differ
returns-then-is_other-clause-differ c =
    on_ok_weaker c.put.result
    (λ put. all_put (IsOther c.args.minutes c.args.told.now c.args.events.now) c.args.players.now.items c.put.new.players.items c.args.player put c.requires.differ
    (c.is_other.ensures.differs c.if-is_other.true))
    c.put.ensures.others
