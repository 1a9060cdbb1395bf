use Rattle.std.proofs.Common.{arith}
use Rattle.fpl_http.proofs.LinesLemmas.{search_on}
use Rattle.fpl_http.proofs.lines.head_length.Goals as goal

pub loop-line-init : goal.loop-line-init
loop-line-init c = record {
  within = omega (arith, c.requires.within, c.saturating_sub-at.ensures);
  found = search_on c.args.bytes.now c.args.searched c.saturating_sub-at.result c.requires.none c.saturating_sub-at.ensures;
}
