-- Which calls fail by choice, and what the forms over memory give and take.
use Rattle.std.specs.Prelude.{ℕ, ◌-◌, Bool, ◌&&◌, ◌||◌, not, nat_lt, if◌then◌else◌, ◌==◌, List, [], length, take, min, max}
use Rattle.std.specs.List.{list_any}
use Rattle.fpl_base.specs.declared.records.RecordKey.{RecordKey as Key}
use Rattle.fpl_base.specs.Causes.{one_more}

-- the numbers of the calls that are to fail, counted from 1, and how many calls were made and failed so far
pub record Planned : Type 0 where
  pub failing : List ℕ
  pub calls : ℕ
  pub faults : ℕ

-- the next call is one of those that are to fail
abbrev pub fails_next : Planned → Bool
fails_next plan = list_any (λ call. call == one_more plan.calls) plan.failing

-- the plan when one more fault was counted
abbrev pub with_fault : Planned → Planned
with_fault plan = record { failing = plan.failing; calls = plan.calls; faults = one_more plan.faults }

-- the plan when the next call has begun
abbrev pub after_call : Planned → Planned
after_call plan = record { failing = plan.failing; calls = one_more plan.calls; faults = if fails_next plan then one_more plan.faults else plan.faults }

-- bytes that are given in pieces
pub record Pieces : Type 0 where
  pub left : List ℕ
  pub piece : ℕ

-- bytes that are given in pieces, by calls of which some fail
pub record PlannedSource : Type 0 where
  pub left : List ℕ
  pub piece : ℕ
  pub plan : Planned

-- how many bytes are given into so many places: at most a piece, which is at least 1
abbrev pub given_of : ℕ → List ℕ → ℕ → ℕ
given_of piece left places = min (min places (length left)) (max piece 1)

-- room for bytes, which are taken by calls of which some fail
pub record PlannedSink : Type 0 where
  pub taken : List ℕ
  pub room : ℕ
  pub plan : Planned

-- bytes go past the room that is left
abbrev pub is_too_long : PlannedSink → List ℕ → Bool
is_too_long sink bytes = nat_lt (sink.room - length sink.taken) (length bytes)

-- what a sink takes of bytes: none in a call that is to fail, and else those that there is room for
abbrev pub taken_of : PlannedSink → List ℕ → List ℕ
taken_of sink bytes = if fails_next sink.plan then [] else take (min (sink.room - length sink.taken) (length bytes)) bytes

abbrev pub write_fails : PlannedSink → List ℕ → Bool
write_fails sink bytes = fails_next sink.plan || is_too_long sink bytes

-- the plan after a write, in which one fault is counted at most
abbrev pub plan_after_write : PlannedSink → List ℕ → Planned
plan_after_write sink bytes = if not (fails_next sink.plan) && is_too_long sink bytes then with_fault (after_call sink.plan) else after_call sink.plan

-- records under rising keys, kept by calls of which some fail; a commit that is to fail stores first or stores nothing
pub record PlannedKeeper : Type 0 where
  pub records : List (Key × List ℕ)
  pub stores : Bool
  pub plan : Planned
