use Rattle.std.proofs.Common.{◌≡◌, ◌∙◌, List, subst, sym, ℕ}
use Rattle.local_requests.specs.Printing.{PrintsOne}
use Rattle.request_handler.specs.Kept.{Kept}
use Rattle.draft_league.specs.declared.kinds.Outcome.{Outcome}
use Rattle.fpl_drafting.specs.Texts.{outcomes_text, picks_text}
use Rattle.fpl_drafting.proofs.TellLemmas.{told_opens, told_stops, told_tables}
use Rattle.fpl_drafting.proofs.drafting.told.Goals as goal

pub returns-then-written-ne-DONE-clause-told : goal.returns-then-written-ne-DONE-clause-told
returns-then-written-ne-DONE-clause-told g c =
    let done = c.tell_outcomes-written in
    let before = g.W.Sink.taken c.args.output.now in
    let after = g.W.Sink.taken done.new.output in
    let kept : Kept _ = record { host = c.args.host.now; moments = g.C.Clock.left c.args.clock.now; failed = g.K.Keeper.faults c.args.keeper.now; keeper = c.args.keeper.now } in
    told_stops _ g.K.Keeper.tells g.K.Keeper.serves g.K.Keeper.holds g.K.Keeper.passes c.args.draft.now done.result before after kept
    (subst (λ (past : List Outcome). PrintsOne (λ text. text ≡ outcomes_text past) 0 done.result before after) c.outcomes.ensures done.ensures.told) c.if-written-ne-DONE.true

pub returns-then-is_over-clause-told : goal.returns-then-is_over-clause-told
returns-then-is_over-clause-told g c =
    let done = c.tell_outcomes-written in
    let end = c.tabled.new in
    let before = g.W.Sink.taken c.args.output.now in
    let between = g.W.Sink.taken done.new.output in
    let first : Kept _ = record { host = c.args.host.now; moments = g.C.Clock.left c.args.clock.now; failed = g.K.Keeper.faults c.args.keeper.now; keeper = c.args.keeper.now } in
    let last : Kept _ = record { host = end.host; moments = g.C.Clock.left end.clock; failed = g.K.Keeper.faults end.keeper; keeper = end.keeper } in
    told_tables _ g.K.Keeper.tells g.K.Keeper.serves g.K.Keeper.holds g.K.Keeper.passes c.args.draft.now done.result c.tabled.result before between (g.W.Sink.taken end.output) first last
    (subst (λ (past : List Outcome). PrintsOne (λ text. text ≡ outcomes_text past) 0 done.result before between) c.outcomes.ensures done.ensures.told) c.if-written-ne-DONE.false
    (sym c.is_over.ensures ∙ c.if-is_over.true) c.tabled.ensures.tabled

pub returns-else-is_over-clause-told : goal.returns-else-is_over-clause-told
returns-else-is_over-clause-told g c =
    let done = c.tell_outcomes-written in
    let before = g.W.Sink.taken c.args.output.now in
    let between = g.W.Sink.taken done.new.output in
    let after = g.W.Sink.taken c.tell_picks.new.output in
    let kept : Kept _ = record { host = c.args.host.now; moments = g.C.Clock.left c.args.clock.now; failed = g.K.Keeper.faults c.args.keeper.now; keeper = c.args.keeper.now } in
    told_opens _ g.K.Keeper.tells g.K.Keeper.serves g.K.Keeper.holds g.K.Keeper.passes c.args.draft.now done.result c.tell_picks.result before between after kept
    (subst (λ (past : List Outcome). PrintsOne (λ text. text ≡ outcomes_text past) 0 done.result before between) c.outcomes.ensures done.ensures.told) c.if-written-ne-DONE.false
    (sym c.is_over.ensures ∙ c.if-is_over.false)
    (subst (λ (n : ℕ). PrintsOne (λ text. text ≡ picks_text n) 0 c.tell_picks.result between after) c.picks.ensures c.tell_picks.ensures.told)
