use Rattle.std.proofs.Common.{◌≡◌, ◌<◌, ◌+◌, ◌∙◌, ℕ, Bool, true, false, ◌||◌, length, take, arith, refl, sym, ap}
use Rattle.std.proofs.lemmas.Bool.{false≢true}
use Rattle.std.proofs.lemmas.List.Folds.{list_any_more}
use Rattle.match_events.specs.Events.{brings_on}
use Rattle.match_events.specs.Lines.{has_come_on, line_of}
use Rattle.match_events.specs.Sheets.{is_listed}
use Rattle.match_events.specs.declared.event.Event.{Event}
use Rattle.match_events.proofs.changes.add_changed.Goals as goal

-- who came on by one event more came on before, or comes on by it
one_or_other : (a b : Bool) → (a || b) ≡ true → (a ≡ false) → b ≡ true
one_or_other true b one none = absurd (false≢true (sym none))
one_or_other false b one none = one

not_before : (a b : Bool) → (a ≡ true → b ≡ true) → b ≡ false → a ≡ false
not_before true b more none = absurd (false≢true (sym none ∙ more refl))
not_before false b more none = refl

pub loop-event-preserved : goal.loop-event-preserved
loop-event-preserved c =
    let at = c.loop-event in
    let now = c.in_ok-add_comer.ensures in
    let here = c.loop-event-test.true in
    record {
      ascending = now.ascending;
      differ = now.differ;
      more = λ p listed. now.more p (at.invariant.more p listed);
      others = λ p came none.
          let none_before : is_listed at.players.items p ≡ false = not_before (is_listed at.players.items p) (is_listed c.add_comer.new.players.items p) (now.more p) none in
          let split : has_come_on (take (at.event-index + 1) c.args.comings.now) p ≡ (has_come_on (take at.event-index c.args.comings.now) p || brings_on p c.event-item.result) =
          list_any_more (brings_on p) c.args.comings.now at.event-index c.event-item.result here
          ∙ ap (λ (e : Event). has_come_on (take at.event-index c.args.comings.now) p || brings_on p e) (sym c.event-item.is) in
          elim (has_come_on (take at.event-index c.args.comings.now) p) as (λ b. has_come_on (take at.event-index c.args.comings.now) p ≡ b → line_of c.args.minutes c.args.events.now p ≡ line_of c.args.minutes c.args.told.now p) [
            | true ↦ λ before. at.invariant.others p before none_before
            | false ↦ λ before. now.other p (one_or_other (has_come_on (take at.event-index c.args.comings.now) p) (brings_on p c.event-item.result) (sym split ∙ came) before) none
          ] refl;
      few = omega (arith, now.few, at.invariant.few);
    }
