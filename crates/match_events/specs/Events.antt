-- Events of a match, and what each says of a player.
use Rattle.std.specs.Prelude.{ℕ, Bool, true, false, ◌&&◌, ◌||◌, ◌==◌, Option, Some, None, is_none, is_some, nat_le}
use Rattle.std.specs.Option.{option_map_or}
use Rattle.match_events.specs.declared.event.Event.{Event}
use Rattle.match_events.specs.declared.event.EventKind.{EventKind}
use Rattle.match_events.specs.declared.event.EventKind.TheVariants as kind
use Rattle.match_events.specs.declared.event.Side.{Side}
use Rattle.match_events.specs.declared.event.Side.TheVariants as side

-- two sides are the same
abbrev pub is_same_side : Side → Side → Bool
is_same_side side.Home side.Home = true
is_same_side side.Away side.Away = true
is_same_side one other = false

-- an optional player is this one
abbrev pub is_player : Option ℕ → ℕ → Bool
is_player named player = option_map_or (λ q. q == player) named false

-- which kind an event is
abbrev pub is_start : EventKind → Bool
is_start kind.Start = true
is_start other = false

abbrev pub is_goal : EventKind → Bool
is_goal kind.Goal = true
is_goal other = false

abbrev pub is_own : EventKind → Bool
is_own kind.Own = true
is_own other = false

abbrev pub is_yellow : EventKind → Bool
is_yellow kind.Yellow = true
is_yellow other = false

abbrev pub is_red : EventKind → Bool
is_red kind.Red = true
is_red other = false

abbrev pub is_sub : EventKind → Bool
is_sub kind.Sub = true
is_sub other = false

-- who comes on by an event: he who starts, or the incomer of a substitution
abbrev pub comer_by : EventKind → Event → Option ℕ
comer_by kind.Start event = Some event.player
comer_by kind.Sub event = event.other
comer_by other event = None

abbrev pub comer_of : Event → Option ℕ
comer_of event = comer_by event.kind event

-- an event starts a player or brings him on
abbrev pub brings_on : ℕ → Event → Bool
brings_on player event = is_player (comer_of event) player

-- a substitution takes him off
abbrev pub takes_off : ℕ → Event → Bool
takes_off player event = is_sub event.kind && event.player == player

-- a red card sends him off
abbrev pub sends_off : ℕ → Event → Bool
sends_off player event = is_red event.kind && event.player == player

-- he is on the pitch no longer
abbrev pub ends_play : ℕ → Event → Bool
ends_play player event = takes_off player event || sends_off player event

-- he scores, he assists, he scores an own goal, he is booked
abbrev pub scores : ℕ → Event → Bool
scores player event = is_goal event.kind && event.player == player

abbrev pub assists : ℕ → Event → Bool
assists player event = is_goal event.kind && is_player event.other player

abbrev pub scores_own : ℕ → Event → Bool
scores_own player event = is_own event.kind && event.player == player

abbrev pub books : ℕ → Event → Bool
books player event = is_yellow event.kind && event.player == player

-- an event of a match of so many minutes: a start stands at minute 0 and every other event in a minute of the match; a
-- substitution names an incomer, a goal may name who assisted, and no other event names a second player
abbrev pub has_minute : ℕ → Event → Bool
has_minute length event = nat_le 1 event.minute && nat_le event.minute length

abbrev pub is_event_by : EventKind → ℕ → Event → Bool
is_event_by kind.Start length event = event.minute == 0 && is_none event.other
is_event_by kind.Sub length event = has_minute length event && is_some event.other
is_event_by kind.Goal length event = has_minute length event
is_event_by other length event = has_minute length event && is_none event.other

abbrev pub is_event : ℕ → Event → Bool
is_event length event = is_event_by event.kind length event
