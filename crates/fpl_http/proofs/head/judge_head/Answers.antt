use Rattle.fpl_http.proofs.PartsLemmas.{tells_by}
use Rattle.fpl_http.proofs.head.judge_head.Goals as goal

pub returns-in-Some : goal.returns-in-Some
returns-in-Some c =
    let (h, reads, at) = c.in-Some.ensures.found in
    tells_by c.args.head.now c.in-Some.found c.read_head.new.spans h c.judge_fields.result reads at c.in-Some.ensures.within c.judge_fields.ensures
