-- How a call is judged: by the rules in their order, the first broken one with what it keeps.
use Rattle.std.specs.Prelude.{◌≡◌, Bool, List, [], ◌∷◌, Option, Some, None, Result, Ok, Err, if◌then◌else◌}
use Rattle.fpl_base.specs.declared.rule.Rule.{Rule}
use Rattle.fpl_base.specs.declared.memory.Refused.{Refused}
use Rattle.fpl_base.specs.declared.memory.Refused.TheVariants as refused

-- the first of the refusals that comes
abbrev pub first_broken : List (Option Rule) → Option Rule
first_broken [] = None
first_broken (None ∷ more) = first_broken more
first_broken (Some rule ∷ more) = Some rule

-- this refusal, unless the test holds
abbrev pub unless : Bool → Rule → Option Rule
unless holds rule = if holds then None else Some rule

-- a call is refused exactly where a rule is broken, and names that one
abbrev pub IsJudged : {T : Type 0} → Option Rule → Result T Rule → Type 0
IsJudged broken (Ok value) = broken ≡ None
IsJudged broken (Err rule) = broken ≡ Some rule

-- the same of a call that takes memory: memory runs out only where no rule is broken
abbrev pub IsJudgedOrOut : {T : Type 0} → Option Rule → Result T Refused → Type 0
IsJudgedOrOut broken (Ok value) = broken ≡ None
IsJudgedOrOut broken (Err (refused.Rule rule)) = broken ≡ Some rule
IsJudgedOrOut broken (Err refused.Memory) = broken ≡ None
