use Rattle.std.proofs.Common.{◌≡◌, ◌∙◌, ℕ, Option, IfSome, sym, subst}
use Rattle.season_calendar.specs.declared.instant.Parts.{Parts}
use Rattle.season_calendar.specs.Instants.{IsCivil, IsMomentOf}
use Rattle.season_calendar.proofs.Days.{same_parts, moment_only}
use Rattle.season_calendar.proofs.instant.read_instant.Goals as goal

pub returns : goal.returns
returns c t =
    let p = c.in_ok-read_parts.field-0 in
    let P : Option ℕ → Type 0 = λ r. IfSome r (λ u. IsCivil p × IsMomentOf p u) in (
      λ e.
          let is : IsCivil p × IsMomentOf p t = subst P e c.moment_of.ensures.some in
          record { parts = p; civil = is.0; text_is = c.in_ok-read_parts.ensures.some.1; moment = is.1 },
      λ i.
          let same : p ≡ i.parts = same_parts p i.parts (sym c.in_ok-read_parts.ensures.some.1 ∙ i.text_is) in
          let C : Parts → Type 0 = IsCivil in
          let M : Parts → Type 0 = λ q. IsMomentOf q t in
          moment_only c.moment_of.result p t c.moment_of.ensures.some c.moment_of.ensures.none (subst C (sym same) i.civil) (subst M (sym same) i.moment),
    )
