use Rattle.std.proofs.Common.{◌≡◌, ◌<◌, ◌∙◌, ℕ, Bool, true, eqb, find, get_or, length, Some, ap, sym, arith, inl, inr}
use Rattle.std.proofs.lemmas.Bool.{cases_eq}
use Rattle.std.proofs.lemmas.List.{get_or_default}
use Rattle.rule_book.specs.declared.season.Fixture.{Fixture}
use Rattle.season_calendar.specs.Kept.{is_there_early}
use Rattle.season_calendar.proofs.Around.{find_none}
use Rattle.season_calendar.proofs.Early.{first_passes}
use Rattle.season_calendar.proofs.season.first_early.Goals as goal

-- all before the one that was read are not early, and it is
pub returns-then-kicks_off_early : goal.returns-then-kicks_off_early
returns-then-kicks_off_early c =
    let p : ℕ → Bool = λ f. is_there_early c.args.t (find (λ (x : Fixture). eqb x.id f) c.args.fixtures.now) in
    let item = c.f-item.result in
    let here : p (get_or c.args.ids.now c.loop-f.f-index item) ≡ true = ap p (sym c.f-item.is) ∙ (sym c.kicks_off_early.ensures ∙ c.if-kicks_off_early.true) in
    sym (first_passes p c.args.ids.now c.loop-f.f-index item (omega arith) c.loop-f.invariant here ∙ ap (λ n. Some n) (sym c.f-item.is))

pub loop-f-preserved : goal.loop-f-preserved
loop-f-preserved c = λ j d lt.
    let p : ℕ → Bool = λ f. is_there_early c.args.t (find (λ (x : Fixture). eqb x.id f) c.args.fixtures.now) in
    let item = c.f-item.result in
    let within : c.loop-f.f-index < length c.args.ids.now = omega arith in
    elim (cases_eq j c.loop-f.f-index) [
      | inl same ↦ ap (λ n. p (get_or c.args.ids.now n d)) same ∙ (ap p (get_or_default c.args.ids.now c.loop-f.f-index d item within ∙ sym c.f-item.is) ∙ (sym c.kicks_off_early.ensures ∙ c.if-kicks_off_early.false))
      | inr other ↦ c.loop-f.invariant j d (omega arith)
    ]

pub returns : goal.returns
returns c =
    let p : ℕ → Bool = λ f. is_there_early c.args.t (find (λ (x : Fixture). eqb x.id f) c.args.fixtures.now) in
    sym (find_none p c.args.ids.now (λ j d lt. c.loop-f.invariant j d (omega arith)))
