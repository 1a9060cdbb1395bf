use Rattle.std.proofs.Common.{◌∙◌, refl}
use Rattle.json_members.proofs.AppendLemmas.{one_more}
use Rattle.json_members.proofs.ListLemmas.{rest_of}
use Rattle.live_windows.specs.Gathered.{own_explained}
use Rattle.live_windows.proofs.ItemsWritten.{ended}
use Rattle.live_windows.proofs.players.write_explained.Goals as goal

pub loop-line-preserved : goal.loop-line-preserved
loop-line-preserved c = record {
  tokens = one_more (own_explained c.args.profile c.args.position) c.args.own.now c.loop-line.line-index c.line-item.result c.loop-line-test.true c.line-item.is c.in_ok-write_line.ensures c.loop-line.invariant.tokens;
  before = c.in_ok-write_line.ensures.before ∙ c.loop-line.invariant.before;
}

pub returns : goal.returns
returns c =
    ended (rest_of (own_explained c.args.profile c.args.position)) c.args.own.now c.loop-line.line-index refl c.loop-line-test.false c.end_array.ensures c.loop-line.invariant.tokens c.loop-line.invariant.before
