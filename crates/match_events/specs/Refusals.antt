-- Which events may not stand in a match as they do.
use Rattle.std.specs.Prelude.{◌≡◌, ℕ, ◌+◌, Bool, true, false, not, ◌&&◌, ◌||◌, ◌==◌, List, [], ◌∷◌, ◌++◌, Option, Some, None, Result, Ok, Err, ⊤, if◌then◌else◌, nat_lt, nat_le, length, slice_get, count_by, ◌-◌}
use Rattle.std.specs.Option.{option_map_or}
use Rattle.match_events.specs.Events.{comer_of, is_goal, is_player, is_same_side, is_start}
use Rattle.match_events.specs.Lines.{has_come_on, is_on_pitch, is_one_side, side_of}
use Rattle.match_events.specs.declared.event.Event.{Event}
use Rattle.match_events.specs.declared.event.Side.{Side}
use Rattle.match_events.specs.declared.refusal.EventRefused.{EventRefused}
use Rattle.match_events.specs.declared.refusal.EventRefused.TheVariants as refused
use Rattle.match_events.specs.declared.refusal.EventRule.{EventRule}
use Rattle.match_events.specs.declared.refusal.EventRule.TheVariants as rule

-- the number of a refusal
abbrev pub rule_number : EventRule → ℕ
rule_number (rule.EventOrder place) = 51
rule_number (rule.NotOnPitch place) = 52
rule_number (rule.AlreadyOn place) = 53
rule_number rule.EventsFull = 54
rule_number (rule.StartersFull place) = 55
rule_number (rule.AssistWrong place) = 56

-- What may be wrong with an event behind those before it.

-- its minute is smaller than that of the event before
abbrev pub is_early : List Event → Event → Bool
is_early before event = option_map_or (λ (earlier : Event). nat_lt event.minute earlier.minute) (slice_get before (length before - 1)) false

-- it is a start, and eleven of its side started before
abbrev pub starts_for : Side → Event → Bool
starts_for side event = is_start event.kind && is_same_side event.side side

abbrev pub is_twelfth : List Event → Event → Bool
is_twelfth before event = is_start event.kind && nat_le 11 (count_by (starts_for event.side) before)

-- who starts or comes on by it did so before
abbrev pub comes_again : List Event → Event → Bool
comes_again before event = option_map_or (has_come_on before) (comer_of event) false

-- a goal names a second player
abbrev pub assister_of : Event → Option ℕ
assister_of event = if is_goal event.kind then event.other else None

-- its player is not on the pitch, unless he starts by it, or he who assisted is not
abbrev pub is_off_pitch : List Event → Event → Bool
is_off_pitch before event =
    not (is_start event.kind) && not (is_on_pitch before event.player)
    || option_map_or (λ q. not (is_on_pitch before q)) (assister_of event) false

-- he who assisted is the scorer, or of the other side
abbrev pub is_wrong_assist : List Event → Event → Bool
is_wrong_assist before event =
    option_map_or (λ q. q == event.player || not (is_one_side (side_of before q) (side_of before event.player))) (assister_of event) false

-- the first rule that the event of this place breaks behind those before it, in this order
abbrev pub broken_by : List Event → ℕ → Event → Option EventRule
broken_by before place event =
    if is_early before event then Some (rule.EventOrder place)
    else (if is_twelfth before event then Some (rule.StartersFull place)
    else (if comes_again before event then Some (rule.AlreadyOn place)
    else (if is_off_pitch before event then Some (rule.NotOnPitch place)
    else (if is_wrong_assist before event then Some (rule.AssistWrong place)
    else None))))

-- this rule, or else that one
abbrev pub or_rule : Option EventRule → Option EventRule → Option EventRule
or_rule (Some rule) more = Some rule
or_rule None more = more

-- the first event of these, behind those before them, that breaks a rule: which rule, and its place
abbrev pub broken_behind : List Event → List Event → Option EventRule
broken_behind before [] = None
broken_behind before (event ∷ more) = or_rule (broken_by before (length before + 1) event) (broken_behind (before ++ event ∷ []) more)

-- the first event of a list that breaks a rule
abbrev pub broken_in : List Event → Option EventRule
broken_in events = broken_behind [] events

-- a call is refused by a rule exactly where it is broken; memory may be wanting at any time
abbrev pub IsJudged : Option EventRule → Result (Unit {0}) EventRefused → Type 0
IsJudged broken (Ok done) = broken ≡ None
IsJudged broken (Err (refused.Rule rule)) = broken ≡ Some rule
IsJudged broken (Err refused.Memory) = ⊤
