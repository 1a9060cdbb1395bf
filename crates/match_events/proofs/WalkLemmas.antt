-- A walk along the events, one more at a time.
use Rattle.std.proofs.Common.{ℕ, ◌+◌, ◌≡◌, ◌<◌, ◌∙◌, List, [], ◌∷◌, ◌++◌, Option, None, Some, length, get_or, take, drop, arith, sym, ap}
use Rattle.std.proofs.lemmas.List.{drop_more, length-take-le, take_more}
use Rattle.match_events.specs.Refusals.{broken_behind, broken_by, or_rule}
use Rattle.match_events.specs.declared.event.Event.{Event}
use Rattle.match_events.specs.declared.refusal.EventRule.{EventRule}

-- the next event, and those behind it
broken_next : (events : List Event) (i : ℕ) (d : Event) → i < length events
    → broken_behind (take i events) (drop i events) ≡ or_rule (broken_by (take i events) (i + 1) (get_or events i d)) (broken_behind (take (i + 1) events) (drop (i + 1) events))
broken_next events i d here =
    let front : length (take i events) ≡ i = length-take-le i events (omega arith) in
    let next = drop_more events i d here in
    let more = take_more events i d here in
    ap (broken_behind (take i events)) next
    ∙ ap (λ n. or_rule (broken_by (take i events) (n + 1) (get_or events i d)) (broken_behind (take i events ++ get_or events i d ∷ []) (drop (i + 1) events))) front
    ∙ ap (λ (before : List Event). or_rule (broken_by (take i events) (i + 1) (get_or events i d)) (broken_behind before (drop (i + 1) events))) (sym more)

-- it breaks a rule, or none
pub broken_here : (events : List Event) (i : ℕ) (event : Event) (rule : EventRule) → i < length events → event ≡ get_or events i event → Some rule ≡ broken_by (take i events) (i + 1) event
    → broken_behind (take i events) (drop i events) ≡ Some rule
broken_here events i event rule here at is =
    let rest = broken_behind (take (i + 1) events) (drop (i + 1) events) in
    broken_next events i event here ∙ ap (λ (e : Event). or_rule (broken_by (take i events) (i + 1) e) rest) (sym at) ∙ ap (λ (o : Option EventRule). or_rule o rest) (sym is)

pub broken_later : (events : List Event) (i : ℕ) (event : Event) → i < length events → event ≡ get_or events i event → None ≡ broken_by (take i events) (i + 1) event
    → broken_behind (take i events) (drop i events) ≡ broken_behind (take (i + 1) events) (drop (i + 1) events)
broken_later events i event here at is =
    let rest = broken_behind (take (i + 1) events) (drop (i + 1) events) in
    broken_next events i event here ∙ ap (λ (e : Event). or_rule (broken_by (take i events) (i + 1) e) rest) (sym at) ∙ ap (λ (o : Option EventRule). or_rule o rest) (sym is)
