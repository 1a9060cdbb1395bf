use Rattle.std.proofs.Common.{◌∙◌, ◌+◌, ℕ, List, ap, arith, set}
use Rattle.squad_rules.specs.declared.pools.Candidate.{Candidate}
use Rattle.squad_rules.proofs.Putting.{all_filled, filled, none_filled, one_filled}
use Rattle.squad_rules.proofs.dream.placed.Goals as goal

pub loop-place-init : goal.loop-place-init
loop-place-init c = record {
  so_far = none_filled (λ (candidate : Candidate). candidate.player) c.args.players c.args.from c.args.candidates.now;
  within = omega arith;
}

pub loop-place-preserved : goal.loop-place-preserved
loop-place-preserved c =
    let inv = c.loop-place.invariant in
    let at = c.loop-place.place in
    let read = c.index-candidates-place in
    record {
      so_far = ap (λ (l : List ℕ). set l (c.args.from + at) read.result.player) inv.so_far
          ∙ ap (λ (v : ℕ). set (filled (λ (candidate : Candidate). candidate.player) c.args.players c.args.from c.args.candidates.now at) (c.args.from + at) v) (ap (λ (x : Candidate). x.player) read.is)
          ∙ one_filled (λ (candidate : Candidate). candidate.player) c.args.players c.args.from c.args.candidates.now at read.result (omega arith) (omega arith);
      within = omega arith;
    }

pub returns : goal.returns
returns c =
    let inv = c.loop-place.invariant in
    inv.so_far ∙ all_filled (λ (candidate : Candidate). candidate.player) c.args.players c.args.from c.args.candidates.now c.loop-place.place (omega arith) inv.within
