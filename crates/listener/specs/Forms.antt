-- What doors over memory tell.
use Rattle.std.specs.Prelude.{ℕ, List, [], ◌∷◌, ◌++◌, Some}
use Rattle.fpl_base.specs.Doors.{Ended}
use Rattle.test_doubles.specs.Plans.{Pieces, Planned, PlannedSink}
use Rattle.listener.specs.declared.memory.Past.{Past, Empty, Last'}

-- the connections still to come and those given back, how many bytes a source gives at a time, and the room of a sink
pub record KnownDoors : Type 0 where
  pub coming : List (List ℕ)
  pub given_back : List Ended
  pub piece : ℕ
  pub room : ℕ

-- the same, opened by calls of which some fail
pub record PlannedDoors : Type 0 where
  pub coming : List (List ℕ)
  pub given_back : List Ended
  pub piece : ℕ
  pub room : ℕ
  pub plan : Planned

-- a sink that took no bytes yet, of whose calls none is to fail
abbrev pub fresh_sink : ℕ → PlannedSink
fresh_sink room = record { taken = []; room = room; plan = record { failing = []; calls = 0; faults = 0 } }

-- a connection over memory as it was given back: its source never fails
abbrev pub ended_with : Pieces → PlannedSink → Ended
ended_with source sink = record { left = Some source.left; taken = Some sink.taken; read_faults = 0; write_faults = sink.plan.faults }

-- those that were given back, in their order: the last of them is kept in front
abbrev pub ended_in : Past → List Ended
ended_in Empty = []
ended_in (Last' visit p before) = ended_in before ++ ended_with visit.source visit.sink ∷ []
