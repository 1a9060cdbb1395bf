use Rattle.std.proofs.Common.{◌≡◌, ◌∙◌, ap, sym, ℕ, Option, Some, None}
use Rattle.std.specs.Option.{option_map_or}
use Rattle.match_events.specs.Events.{ends_play}
use Rattle.match_events.specs.declared.event.Event.{Event}
use Rattle.match_events.proofs.ListLemmas.{found_first, found_none}
use Rattle.match_events.proofs.line.off_minute.Goals as goal

pub returns-in-Some : goal.returns-in-Some
returns-in-Some c =
    ap (λ (event : Event). event.minute) (sym c.index-events-place.is)
    ∙ ap (λ (o : Option Event). option_map_or (λ (event : Event). event.minute) o c.args.minutes)
    (sym (found_first (ends_play c.args.player) c.args.events.now c.in-Some.place c.index-events-place.result c.in-Some.ensures.within c.index-events-place.is c.in-Some.ensures.place))

pub returns-in-None : goal.returns-in-None
returns-in-None c =
    ap (λ (o : Option Event). option_map_or (λ (event : Event). event.minute) o c.args.minutes) (sym (found_none (ends_play c.args.player) c.args.events.now c.in-None.ensures.place))
