use Rattle.std.proofs.Common.{subst, sym}
use Rattle.draft_league.specs.Rules.{IsJudged}
use Rattle.fpl_drafting.specs.declared.row.DraftRow.{DraftRow}
use Rattle.fpl_drafting.specs.Steps.{refusal_of}
use Rattle.fpl_drafting.proofs.steps.change.Goals as goal

pub returns-in-Bid-clause-judged : goal.returns-in-Bid-clause-judged
returns-in-Bid-clause-judged c =
    subst (λ (row : DraftRow). IsJudged (refusal_of row c.args.position c.args.draft.now) c.bid.result) (sym c.in-Bid.is) c.bid.ensures.judged
