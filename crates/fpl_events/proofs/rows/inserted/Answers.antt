use Rattle.std.proofs.Common.{inl, refl, ◌∙◌, ap, length}
use Rattle.match_events.specs.Sheets.{Sheet}
use Rattle.fpl_events.proofs.PlayingLemmas.{one_more, refused_as}
use Rattle.fpl_events.proofs.rows.inserted.Goals as goal

pub returns-in-Ok-clause-done : goal.returns-in-Ok-clause-done
returns-in-Ok-clause-done g c = inl (c.in-Ok.ensures.judged, c.in-Ok.ensures.ok, refl, refl)

pub returns-in-Ok-clause-count : goal.returns-in-Ok-clause-count
returns-in-Ok-clause-count g c =
    ap (λ (s : Sheet). length s.events) c.in-Ok.ensures.ok ∙ one_more c.args.events.now.events c.args.place c.args.event c.requires.place.0 c.requires.place.1

pub returns-in-Err-clause-done : goal.returns-in-Err-clause-done
returns-in-Err-clause-done g c = refused_as _ _ _ _ c.in-Err.why _ _ _ c.in-Err.ensures.judged c.ended.ensures.ends
