use Rattle.std.proofs.Common.{arith, sym, ◌∙◌, length}
use Rattle.std.proofs.lemmas.List.Elements.{All-get_or}
use Rattle.httparse.specs.Spans.{IsHeaderWithin}
use Rattle.fpl_http.proofs.FieldsLemmas.{seen_more, passed_more}
use Rattle.fpl_http.proofs.fields.seek_field.Goals as goal
use Rattle.fpl_http.proofs.fields.seek_field.Goals.{then-is_named, else-is_named}

pub loop-header-preserved : goal.loop-header-preserved
loop-header-preserved c =
    let (front, shows, all) = c.loop-header.invariant.shows in
    elim c.if-is_named.branch [
      | then-is_named w ↦
          let shown = w.one_more-seen.ensures.shows c.args.buf.now front shows in
          let named = sym c.is_named.ensures ∙ w.if-is_named.true in
          let here = All-get_or (IsHeaderWithin (length c.args.buf.now)) c.args.headers.now c.loop-header.header-index _ (omega arith) c.requires in
          rw w.seen-is (record { shows = seen_more c.args.buf.now c.args.name.now front c.args.headers.now c.loop-header.header-index _ w.one_more-seen.result _ (omega arith) (rw c.of.ensures at named) shown all; within = w.one_more-seen.ensures.within (length c.args.buf.now) here.1 })
      | else-is_named w ↦
          let named = sym c.is_named.ensures ∙ w.if-is_named.false in
          rw w.seen-is (record { shows = passed_more c.args.buf.now c.args.name.now front c.args.headers.now c.loop-header.header-index _ c.loop-header.seen _ (omega arith) (rw c.of.ensures at named) shows all; within = c.loop-header.invariant.within })
    ]
