-- A gameweek as it is written.
use Rattle.std.specs.Prelude.{ℕ, List}
use Rattle.serde_json.specs.Data.{Data}
use Rattle.bootstrap_window.specs.declared.events.Event.{Event}
use Rattle.season_book.specs.Events.{event_with}

-- what is shown of it, by its name
abbrev pub event_by : Event → List ℕ → Data
event_by e name = event_with e.gameweek e.deadline e.average e.highest e.entry e.over e.is_current e.is_next e.is_previous name
