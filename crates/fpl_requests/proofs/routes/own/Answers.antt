use Rattle.fpl_requests.proofs.SegmentLemmas.{take-slash}
use Rattle.fpl_requests.proofs.routes.own.Goals as goal

pub returns : goal.returns
returns c = take-slash c.args.path.now c.slash_at.result (record {
  within = c.slash_at.ensures.within;
  before = c.slash_at.ensures.before;
  there = c.slash_at.ensures.there;
})
