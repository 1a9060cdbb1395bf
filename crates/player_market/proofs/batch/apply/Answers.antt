use Rattle.std.proofs.Common.{[], not, sym}
use Rattle.rule_book.specs.Batch.{is_held, sales_of}
use Rattle.player_market.proofs.BatchLaws.{Distinct, distinct_from_none, one_by_one, different_after, positions_after, placed_after}
use Rattle.player_market.proofs.TransferRefusalLemmas.{fifth_broken}
use Rattle.player_market.proofs.batch.apply.Goals as goal

pub returns-in-Some-first_full_club-clause-judged : goal.returns-in-Some-first_full_club-clause-judged
returns-in-Some-first_full_club-clause-judged c =
    let full = rw (c.picks_after-picks.ensures, c.as_slice.ensures, c.sales_of-sales.ensures.value) at c.in-Some-first_full_club.ensures in
    fifth_broken _ _ _ _ _ _ c.in-Some-first_full_club.club c.in_default.ensures c.in_default-first_held.ensures c.in_default-first_gone.ensures c.in_default-first_moved.ensures full

pub returns-clause-one_by_one : goal.returns-clause-one_by_one
returns-clause-one_by_one c =
    let outs : Distinct (λ s. s.out) (λ id. not (is_held c.args.team.now.picks id)) c.args.swaps.now = distinct_from_none (λ s. s.out) (λ id. not (is_held c.args.team.now.picks id)) [] c.args.swaps.now (sym c.in_default.ensures) in
    let intos : Distinct (λ s. s.into) (is_held c.args.team.now.picks) c.args.swaps.now = distinct_from_none (λ s. s.into) (is_held c.args.team.now.picks) [] c.args.swaps.now (sym c.in_default-first_held.ensures) in
    rw (c.picks_after-picks.ensures, c.as_slice.ensures, c.sales_of-sales.ensures.value) (one_by_one c.args.players.now c.args.team.now.picks c.args.team.now.picks c.args.swaps.now outs intos)

pub returns-clause-different : goal.returns-clause-different
returns-clause-different c apart =
    let outs : Distinct (λ s. s.out) (λ id. not (is_held c.args.team.now.picks id)) c.args.swaps.now = distinct_from_none (λ s. s.out) (λ id. not (is_held c.args.team.now.picks id)) [] c.args.swaps.now (sym c.in_default.ensures) in
    let intos : Distinct (λ s. s.into) (is_held c.args.team.now.picks) c.args.swaps.now = distinct_from_none (λ s. s.into) (is_held c.args.team.now.picks) [] c.args.swaps.now (sym c.in_default-first_held.ensures) in
    rw (c.picks_after-picks.ensures, c.as_slice.ensures, c.sales_of-sales.ensures.value)
    (different_after (sales_of c.args.players.now c.args.team.now.picks c.args.swaps.now) c.args.team.now.picks _ (one_by_one c.args.players.now c.args.team.now.picks c.args.team.now.picks c.args.swaps.now outs intos) apart)

pub returns-clause-positions : goal.returns-clause-positions
returns-clause-positions c = rw c.picks_after-picks.ensures (positions_after c.as_slice.result.now c.args.team.now.picks)

pub returns-clause-placed : goal.returns-clause-placed
returns-clause-placed c position have placed =
    let outs : Distinct (λ s. s.out) (λ id. not (is_held c.args.team.now.picks id)) c.args.swaps.now = distinct_from_none (λ s. s.out) (λ id. not (is_held c.args.team.now.picks id)) [] c.args.swaps.now (sym c.in_default.ensures) in
    rw (c.picks_after-picks.ensures, c.as_slice.ensures, c.sales_of-sales.ensures.value)
    (placed_after position c.args.players.now have c.args.team.now.picks placed c.args.swaps.now (sym c.in_default-first_moved.ensures) outs)
