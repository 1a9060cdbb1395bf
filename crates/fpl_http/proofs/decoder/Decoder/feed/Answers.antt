use Rattle.std.proofs.Common.{arith, ap, sym, ◌∙◌, ◌≡◌, ◌<◌, length, take, true, false}
use Rattle.std.specs.Prelude.{is_some, not}
use Rattle.fpl_http.specs.declared.decoder.Decoder.TheInside.{Inside}
use Rattle.fpl_http.specs.Stored.{Stored}
use Rattle.fpl_http.specs.Held.{Held}
use Rattle.fpl_http.specs.Parts.{request_at}
use Rattle.fpl_http.proofs.HeldLemmas.{fed_knows, fed_refused, fed_found, none_within, not_found}
use Rattle.fpl_http.proofs.StreamLemmas.{wanting_fits}
use Rattle.fpl_http.proofs.decoder.Decoder.feed.Goals as goal
use Rattle.fpl_http.proofs.decoder.Decoder.feed.Goals.{then-is_none, else-is_none}

pub invariant_of-self : goal.invariant_of-self
invariant_of-self c =
    let inside = c.self.inside in
    let x = take c.append.result c.args.piece.now in
    let waits = ap (λ (s : Stored). s.waits) c.append.ensures.value in
    let kept = ap (λ (s : Stored). s.kept) c.append.ensures.value in
    elim c.if-is_none.branch [
      | then-is_none w ↦
          let none : is_some inside.found ≡ false = c.is_none.ensures ∙ ap not w.if-is_none.true in (
            fed_knows inside.buffer.waits _ _ x _ inside.known (ap (λ (i : Inside). i.buffer.waits) w.self-inside-is ∙ w.make_room.ensures.waits) waits (ap (λ (i : Inside). i.known) w.self-inside-is) c.self.invariant.0,
            none_within _ _ inside.found (ap (λ (i : Inside). i.found) w.self-inside-is) none,
          )
      | else-is_none w ↦ (
        fed_knows inside.buffer.waits _ _ x _ inside.known (ap (λ (i : Inside). i.buffer.waits) w.self-inside-is) waits (ap (λ (i : Inside). i.known) w.self-inside-is) c.self.invariant.0,
        fed_found inside.buffer.kept _ _ inside.found (kept ∙ ap (λ (i : Inside). i.buffer.kept) w.self-inside-is) (ap (λ (i : Inside). i.found) w.self-inside-is) c.self.invariant.1,
      )
    ]

pub returns-clause-some : goal.returns-clause-some
returns-clause-some c front stripped none some =
    let inside = c.self.inside in
    let nothing : is_some inside.found ≡ false = not_found (request_at inside.buffer.kept) inside.found (ap (λ (d : Held). d.found) c.self.view_is ∙ none) in
    elim c.if-is_none.branch [
      | then-is_none w ↦
          let short : length inside.buffer.waits < 270336 =
          omega (arith, wanting_fits c.args.self.now.pending front, ap length stripped, ap (λ (d : Held). length d.pending) c.self.view_is) in
          let room = w.make_room.ensures.room short in
          let here = ap (λ (i : Inside). i.buffer.room) w.self-inside-is in
          omega (arith, room, here, c.append.ensures.count, some)
      | else-is_none w ↦
          let is : is_some inside.found ≡ true = c.is_none.ensures ∙ ap not w.if-is_none.false in
          let bad : true ≡ false = sym is ∙ nothing in
          absurd (cc)
    ]

pub returns-clause-refused : goal.returns-clause-refused
returns-clause-refused c k front =
    let inside = c.self.inside in
    let x = take c.append.result c.args.piece.now in
    let waits = ap (λ (s : Stored). s.waits) c.append.ensures.value in
    let view = ap (λ (d : Held). d.pending) c.self.view_is in
    elim c.if-is_none.branch [
      | then-is_none w ↦ fed_refused c.args.self.now.pending _ _ x k (ap (λ (i : Inside). i.buffer.waits) w.self-inside-is ∙ w.make_room.ensures.waits ∙ view) waits front
      | else-is_none w ↦ fed_refused c.args.self.now.pending _ _ x k (ap (λ (i : Inside). i.buffer.waits) w.self-inside-is ∙ view) waits front
    ]
