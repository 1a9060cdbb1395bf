-- A player's line by the events of a match. Each figure counts over the whole list.
use Rattle.std.specs.Prelude.{ℕ, ◌-◌, Bool, false, not, ◌&&◌, ◌||◌, List, [], ◌∷◌, Option, Some, None, if◌then◌else◌, find, count_by, max, reverse}
use Rattle.std.specs.List.{after_first, before_first, list_any}
use Rattle.std.specs.Option.{option_map_or}
use Rattle.rule_book.specs.declared.line.Line.{Line}
use Rattle.match_events.specs.Events.{assists, books, brings_on, ends_play, is_goal, is_own, is_same_side, is_start, scores, scores_own, sends_off, takes_off}
use Rattle.match_events.specs.declared.event.Event.{Event}
use Rattle.match_events.specs.declared.event.Side.{Side}

-- a player started or came on by one of these events
abbrev pub has_come_on : List Event → ℕ → Bool
has_come_on events player = list_any (brings_on player) events

-- he is on the pitch behind these events: he came on, and none took him off or sent him off
abbrev pub is_on_pitch : List Event → ℕ → Bool
is_on_pitch events player = has_come_on events player && not (list_any (ends_play player) events)

-- a player's side, by the events from the last one back: that of his start, or that of the player whom he replaced
abbrev pub side_back : List Event → ℕ → Option Side
side_back [] player = None
side_back (event ∷ earlier) player =
    if brings_on player event then (if is_start event.kind then Some event.side else side_back earlier event.player)
    else side_back earlier player

abbrev pub side_of : List Event → ℕ → Option Side
side_of events player = side_back (reverse events) player

-- two sides are known, and the same
abbrev pub is_one_side : Option Side → Option Side → Bool
is_one_side one other = option_map_or (λ a. option_map_or (is_same_side a) other false) one false

-- the minute of the first event that passes a test, or else this one
abbrev pub minute_of : (Event → Bool) → ℕ → List Event → ℕ
minute_of test otherwise events = option_map_or (λ (event : Event). event.minute) (find test events) otherwise

-- his minutes: from his coming on to the substitution that took him off, to his red card, or to the end of the match; one at least
abbrev pub minutes_of : ℕ → List Event → ℕ → ℕ
minutes_of length events player = max 1 (minute_of (ends_play player) length events - minute_of (brings_on player) 0 events)

-- the events behind the one that brought him on and in front of the substitution that took him off: a red card does not end
-- them
abbrev pub stint_of : List Event → ℕ → List Event
stint_of events player = before_first (takes_off player) (after_first (brings_on player) events)

-- a side concedes a goal of the other side, and an own goal of its own
abbrev pub is_conceded : List Event → Option Side → Event → Bool
is_conceded events own event =
    is_goal event.kind && not (is_one_side own (side_of events event.player))
    || is_own event.kind && is_one_side own (side_of events event.player)

abbrev pub conceded_of : List Event → ℕ → ℕ
conceded_of events player = count_by (is_conceded events (side_of events player)) (stint_of events player)

-- 1 where an event passes a test, and 0 where none does
abbrev pub flag_of : (Event → Bool) → List Event → ℕ
flag_of test events = if list_any test events then 1 else 0

-- the 28 figures of a player who came on
abbrev pub figures_of : ℕ → List Event → ℕ → List ℕ
figures_of length events player =
    minutes_of length events player  -- 1 minutes
    ∷ count_by (scores player) events  -- 2 goals
    ∷ count_by (assists player) events  -- 3 assists
    ∷ conceded_of events player  -- 4 goals conceded
    ∷ 0 ∷ 0 ∷ 0
    ∷ flag_of (books player) events  -- 8 yellow card
    ∷ flag_of (sends_off player) events  -- 9 red card
    ∷ count_by (scores_own player) events  -- 10 own goals
    ∷ 0 ∷ 0 ∷ 0 ∷ 0 ∷ 0 ∷ 0 ∷ 0 ∷ 0 ∷ 0 ∷ 0 ∷ 0 ∷ 0 ∷ 0 ∷ 0 ∷ 0 ∷ 0 ∷ 0 ∷ 0 ∷ []

-- a player has a line where he started or came on
abbrev pub line_of : ℕ → List Event → ℕ → Option Line
line_of length events player =
    if has_come_on events player then Some (record { figures = figures_of length events player }) else None
