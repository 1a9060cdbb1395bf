use Rattle.std.proofs.Common.{arith, ap, ◌∙◌, ◌≡◌, ◌-◌, length}
use Rattle.fpl_http.specs.Stored.{Stored}
use Rattle.fpl_http.proofs.StoredLemmas.{written_back}
use Rattle.fpl_http.proofs.buffer.Buffer.make_room.Goals as goal
use Rattle.fpl_http.proofs.buffer.Buffer.make_room.Goals.{then-is_due, else-is_due}

pub returns-clause-waits : goal.returns-clause-waits
returns-clause-waits c =
    let inv = c.self.invariant in
    let inside = c.self.inside in
    let waits = ap (λ (s : Stored). s.waits) c.self.view_is in
    elim c.if-is_due.branch [
      | then-is_due w ↦
          let whole : inside.end - inside.start - 0 ≡ inside.end - inside.start = omega arith in
          let moved = rw w.deref_mut.ensures.value at w.bring_forward.ensures.moved in
          let size : length w.bring_forward.new.bytes ≡ length inside.bytes.items = w.bring_forward.ensures.len ∙ ap length w.deref_mut.ensures.value in
          let back = written_back w.bring_forward.new.bytes inside.bytes.items inside.bytes.len size inside.bytes.ok.0 in
          rw w.self-inside-is (rw (whole, back) (moved ∙ waits))
      | else-is_due w ↦ rw w.self-inside-is waits
    ]
