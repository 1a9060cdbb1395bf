use Rattle.std.proofs.Common.{◌∙◌, ap, Some, not, sym, rules}
use Rattle.rule_book.specs.declared.transfers.Swap.{Swap}
use Rattle.rule_book.specs.Batch.{is_held}
use Rattle.player_market.proofs.JudgeLemmas.{barred_here, barred_more}
use Rattle.player_market.proofs.judge.first_not_held.Goals as goal

pub returns-then-cannot_go : goal.returns-then-cannot_go
returns-then-cannot_go c = ap (λ (s : Swap). Some s.out) c.index-swaps-place.is ∙ sym (barred_here (λ s. s.out) (λ id. not (is_held c.args.picks.now id)) c.args.swaps.now c.loop-place.place c.index-swaps-place.result (search rules) (search rules)) ∙ c.loop-place.invariant

pub loop-place-preserved : goal.loop-place-preserved
loop-place-preserved c = barred_more (λ s. s.out) (λ id. not (is_held c.args.picks.now id)) c.args.swaps.now c.loop-place.place c.index-swaps-place.result (search rules) (search rules) ∙ c.loop-place.invariant
