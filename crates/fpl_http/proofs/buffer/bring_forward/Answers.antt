use Rattle.std.proofs.Common.{◌∙◌, ◌-◌, ap, List, ℕ, take, drop, ◌++◌}
use Rattle.fpl_http.proofs.StoredLemmas.{turned_front}
use Rattle.fpl_http.proofs.buffer.bring_forward.Goals as goal

pub returns-else-count-start-clause-moved : goal.returns-else-count-start-clause-moved
returns-else-count-start-clause-moved c =
    let bytes = c.args.bytes.now in
    let turned = ap (λ (l : List ℕ). take (c.args.end - c.args.start) (l ++ drop c.args.end bytes)) c.rotate_left.ensures.after in
    turned ∙ turned_front bytes (take c.args.start (take c.args.end bytes)) (drop c.args.end bytes) c.args.start c.args.end c.requires.ordered c.requires.within
