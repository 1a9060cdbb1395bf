use Rattle.std.proofs.Common.{◌≡◌, ◌≤◌, length}
use Rattle.squad_rules.specs.declared.pools.Candidate.{Candidate}
use Rattle.squad_rules.proofs.Putting.{filled}
use Rattle.squad_rules.proofs.dream.placed.Given as goal

-- so many candidates stand in their places
abbrev pub invariant-loop-place : goal.invariant-loop-place
invariant-loop-place l = record {
  so_far : l.players ≡ filled (λ (candidate : Candidate). candidate.player) l.initial.players l.from l.candidates l.place;
  within : l.place ≤ length l.candidates;
}
