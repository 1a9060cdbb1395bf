use Rattle.std.proofs.Common.{◌∙◌, ap, Some, sym, rules}
use Rattle.rule_book.specs.declared.transfers.Swap.{Swap}
use Rattle.rule_book.specs.Batch.{club_of}
use Rattle.player_market.proofs.TradeLemmas.{full_more, full_here}
use Rattle.player_market.proofs.clubs.first_full_club.Goals as goal

pub returns-then-is_club_full : goal.returns-then-is_club_full
returns-then-is_club_full c =
    ap Some c.club.ensures ∙ ap (λ (s : Swap). Some (club_of c.args.players.now s.into)) c.swap-item.is
    ∙ sym (full_here c.args.players.now c.args.after.now c.args.swaps.now c.loop-swap.swap-index c.swap-item.result (search rules) (search rules)) ∙ c.loop-swap.invariant

pub loop-swap-preserved : goal.loop-swap-preserved
loop-swap-preserved c = full_more c.args.players.now c.args.after.now c.args.swaps.now c.loop-swap.swap-index c.swap-item.result (search rules) (search rules) ∙ c.loop-swap.invariant
