use Rattle.std.proofs.Common.{◌≡◌, take}
use Rattle.std.specs.List.{flat_map}
use Rattle.std.specs.Prelude.{string_bytes}
use Rattle.fpl_drafting.specs.Texts.{outcome_text}
use Rattle.fpl_drafting.proofs.texts.outcomes_text.Given as goal

abbrev pub invariant-loop-outcome : goal.invariant-loop-outcome
invariant-loop-outcome l = string_bytes l.text ≡ flat_map outcome_text (take l.outcome-index l.outcomes)
