use Rattle.std.proofs.Common.{◌++◌, ◌∙◌, List, ap, refl, string_bytes, ℕ}
use Rattle.fpl_loading.proofs.RowLemmas.{one_line}
use Rattle.fpl_loading.proofs.more.differs_lines.Goals as goal

pub loop-place-preserved : goal.loop-place-preserved
loop-place-preserved c =
    one_line c.args.places.now c.loop-place.place-index _ _ _ _ _ c.loop-place-test.true refl c.in_ok-push_str.ensures.bytes
    (c.in_ok-push_str-2.ensures.bytes ∙ ap (λ (xs : List ℕ). string_bytes c.push_str.new.self ++ xs) (c.as_str.ensures.value ∙ c.in_ok-row.ensures)) c.loop-place.invariant
