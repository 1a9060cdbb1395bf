use Rattle.std.proofs.Common.{◌∙◌}
use Rattle.fpl_drafting.proofs.TotalLemmas.{rows_differ, squad_plays}
use Rattle.fpl_drafting.proofs.totals.score_at.Goals as goal

pub dream_team-requires-clause-differ : goal.dream_team-requires-clause-differ
dream_team-requires-clause-differ c =
    rows_differ c.args.told.now c.args.gw c.in-Some.squad c.as_slice.result.now
    (c.as_slice.ensures.value ∙ c.in_ok-rows.ensures.rows) (rw c.in-Some.is at c.in_ok-squad.ensures.apart)

pub unreachable-requires-in-None : goal.unreachable-requires-in-None
unreachable-requires-in-None c =
    let rows = c.as_slice.result.now in
    let are = c.as_slice.ensures.value ∙ c.in_ok-rows.ensures.rows in
    let squad = rw c.in-Some.is at c.in_ok-squad.ensures.squad in
    squad_plays c.args.draft.now c.args.told.now c.args.member c.args.gw c.in-Some.squad rows c.requires.over c.squad_at.ensures.squads c.requires.member.0 c.requires.member.1 squad.1 are
    (rows_differ c.args.told.now c.args.gw c.in-Some.squad rows are (rw c.in-Some.is at c.in_ok-squad.ensures.apart))
    (rw c.in-None.is at c.in_ok-dream.ensures.none)
