use Rattle.std.proofs.Common.{arith, ap, sym, ◌∙◌, ◌≡◌, ◌++◌, ◌+◌, ◌-◌, ◌≤◌, ℕ, List, take, drop, length, append_assoc}
use Rattle.std.proofs.lemmas.List.{length-take-le}
use Rattle.fpl_http.specs.Stored.{Stored}
use Rattle.fpl_http.proofs.StoredLemmas.{same_stored, held_more, kept_same, put_size}
use Rattle.fpl_http.proofs.buffer.Buffer.append.Goals as goal

pub returns-clause-value : goal.returns-clause-value
returns-clause-value c =
    let inv = c.self.invariant in
    let inside = c.self.inside in
    let items = inside.bytes.items in
    let n = c.min-count.result in
    let piece = take n c.args.piece.now in
    let fits : n ≤ length c.args.piece.now = omega (arith, c.min-count.ensures) in
    let len : length piece ≡ n = length-take-le n c.args.piece.now fits in
    let room : inside.end + length piece ≤ length items = omega (arith, len, c.min-count.ensures, c.len.ensures, inside.bytes.ok.0, inv.2) in
    let rest = drop (inside.end + length piece) items in
    same_stored _ _
    (ap (λ (l : List ℕ). take (inside.start - inside.from) (drop inside.from l)) (c.put.ensures ∙ append_assoc (take inside.end items) piece rest)
    ∙ kept_same items (piece ++ rest) inside.from inside.start inside.end inv.0 inv.1 inv.2 ∙ ap (λ (s : Stored). s.kept) c.self.view_is)
    (ap (λ (l : List ℕ). take (inside.end + n - inside.start) (drop inside.start l)) c.put.ensures
    ∙ ap (λ (i : ℕ). take (inside.end + i - inside.start) (drop inside.start (take inside.end items ++ piece ++ rest))) (sym len)
    ∙ held_more items piece rest inside.start inside.end inv.1 inv.2 ∙ ap (λ (s : Stored). s.waits ++ piece) c.self.view_is)
    (omega (arith, ap length c.put.ensures, put_size items piece inside.end room, ap (λ (s : Stored). s.room) c.self.view_is))
