-- What a list of events holds, and what inserting and removing an event makes of it.
use Rattle.std.specs.Prelude.{◌≡◌, ◌≢◌, ◌-◌, ◌==◌, ℕ, Bool, false, All, List, Option, Some, if◌then◌else◌, insert, remove, length, nat_le}
use Rattle.std.specs.List.{list_any}
use Rattle.std.specs.List.Sorted.{IsStrictlyIncreasing}
use Rattle.match_events.specs.Lines.{line_of}
use Rattle.match_events.specs.Refusals.{broken_in}
use Rattle.match_events.specs.declared.event.Event.{Event}
use Rattle.match_events.specs.declared.refusal.EventRule.{EventRule}
use Rattle.match_events.specs.declared.refusal.EventRule.TheVariants as rule

-- the minutes of a match, its events, and its events as they stood when it was told last whose line had changed
pub record Sheet : Type 0 where
  pub minutes : ℕ
  pub events : List Event
  pub told : List Event

-- the events with one more in front of the one at this place, from 1, or without the one at this place
abbrev pub with_event : List Event → ℕ → Event → List Event
with_event events place event = insert events (place - 1) event

abbrev pub without_event : List Event → ℕ → List Event
without_event events place = remove events (place - 1)

-- what refuses an insertion: 200 events are there, or the list as it would then be breaks a rule
abbrev pub insert_refusal : List Event → ℕ → Event → Option EventRule
insert_refusal events place event = if nat_le 200 (length events) then Some rule.EventsFull else broken_in (with_event events place event)

-- what refuses a removal
abbrev pub remove_refusal : List Event → ℕ → Option EventRule
remove_refusal events place = broken_in (without_event events place)

-- a player is one of these
abbrev pub is_listed : List ℕ → ℕ → Bool
is_listed players player = list_any (λ q. q == player) players

-- a player's line is another by these events than by those that were told
abbrev pub IsOther : ℕ → List Event → List Event → ℕ → Type 0
IsOther minutes told events player = line_of minutes events player ≢ line_of minutes told player

-- these are, ascending, exactly the players whose line differs: each of them has another line, and everyone else has the same
pub record AreChanged (minutes : ℕ) (told events : List Event) (players : List ℕ) : Type 0 where
  pub ascending : IsStrictlyIncreasing players
  pub differ : All (IsOther minutes told events) players
  pub others : (player : ℕ) → is_listed players player ≡ false → line_of minutes events player ≡ line_of minutes told player
