use Rattle.std.proofs.Common.{ap, ◌∙◌, drop, ◌+◌}
use Rattle.fpl_http.specs.Stored.{Stored}
use Rattle.fpl_http.proofs.StoredLemmas.{same_stored, none_kept, waits_from, waits_size}
use Rattle.fpl_http.proofs.buffer.Buffer.skip.Goals as goal

pub returns : goal.returns
returns c =
    let inv = c.self.invariant in
    let inside = c.self.inside in
    let waits = ap (λ (s : Stored). s.waits) c.self.view_is in
    let fits = waits_size inside.bytes.items c.args.self.now.waits inside.start inside.end c.args.count inv.1 waits c.requires in
    same_stored _ _
    (none_kept inside.bytes.items (inside.start + c.args.count))
    (waits_from inside.bytes.items inside.start inside.end c.args.count fits ∙ ap (drop c.args.count) waits)
    (ap (λ (s : Stored). s.room) c.self.view_is)
