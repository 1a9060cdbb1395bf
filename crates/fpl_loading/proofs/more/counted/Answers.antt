use Rattle.std.proofs.Common.{List, ap, inl, length, subst, ◌∙◌}
use Rattle.std.specs.Io.KnownBytes.{Appends}
use Rattle.fpl_loading.specs.More.{differs_text, more_text}
use Rattle.fpl_loading.specs.declared.notes.Place.{Place}
use Rattle.fpl_loading.proofs.more.counted.Goals as goal

pub returns-in-Ok-more_line-clause-counts : goal.returns-in-Ok-more_line-clause-counts
returns-in-Ok-more_line-clause-counts g c =
    let differs = c.as_slice-differs.ensures in
    inl (
      g.W.Sink.taken c.name_all.new.output,
      subst (λ (places : List Place). Appends (g.W.Sink.taken c.args.output.now) (g.W.Sink.taken c.name_all.new.output) (differs_text places)) differs c.in-Ok.ensures.named,
      inl (
        c.as_bytes.result.now,
        c.as_bytes.ensures.value ∙ c.in-Ok-more_line.ensures ∙ ap (λ (places : List Place). more_text c.args.tally.now.loaded c.args.tally.now.there (length places)) differs,
        c.print.ensures.printed,
      ),
    )
