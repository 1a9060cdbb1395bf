use Rattle.std.proofs.Common.{◌∙◌, ◌-◌, length, drop, arith}
use Rattle.std.proofs.lemmas.List.{take_all, length-drop}
use Rattle.fpl_requests.proofs.SegmentLemmas.{drop-slash}
use Rattle.fpl_requests.proofs.routes.after.Goals as goal

pub returns : goal.returns
returns c =
    take_all (length c.args.path.now - c.slash_at.result) (drop c.slash_at.result c.args.path.now) (omega (arith, length-drop c.slash_at.result c.args.path.now))
    ∙ drop-slash c.args.path.now c.slash_at.result (record {
      within = c.slash_at.ensures.within;
      before = c.slash_at.ensures.before;
      there = c.slash_at.ensures.there;
    })
