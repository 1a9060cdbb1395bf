use Rattle.std.proofs.Common.{◌≡◌, false, refl}
use Rattle.std.specs.Prelude.{codes}
use Rattle.std.proofs.lemmas.Bool.{false≢true}
use Rattle.fpl_http.specs.Seen.{request_seen}
use Rattle.fpl_requests.specs.declared.route.Found.TheVariants as found
use Rattle.fpl_http.specs.Replies.{answer_in}
use Rattle.request_handler.specs.Looks.{Counted}
use Rattle.request_handler.proofs.AlongLemmas.{asked_all, nowhere_all, unready_all}
use Rattle.request_handler.proofs.KeptLemmas.{is_stale, kept_is}
use Rattle.request_handler.proofs.LookLemmas.{counted_is, looks_none, looks_stale, route_counts}
use Rattle.request_handler.proofs.handler.RequestHandlerServiceHostWithScratch.reply.Goals as goal

pub returns-in-Unknown-clause-answered : goal.returns-in-Unknown-clause-answered
returns-in-Unknown-clause-answered g c =
    let old : Counted _ = record {
      kept = record { host = c.args.host.now.host; moments = g.C.Clock.left c.args.clock.now; failed = g.K.Keeper.faults c.args.keeper.now; keeper = c.args.keeper.now };
      reads = c.args.steps.now;
    } in (
      looks_none _ old (request_seen c.args.message.now) (answer_in c.refusal.result),
      nowhere_all (request_seen c.args.message.now) found.Unknown 404 (codes "unknown") c.unknown_text.result.now c.refusal.result c.in-Unknown.ensures refl c.unknown_text.ensures c.refusal.ensures.reply
          _ g.K.Keeper.tells g.K.Keeper.serves g.K.Keeper.holds g.K.Keeper.passes old.kept,
    )

pub returns-in-Method-clause-answered : goal.returns-in-Method-clause-answered
returns-in-Method-clause-answered g c =
    let old : Counted _ = record {
      kept = record { host = c.args.host.now.host; moments = g.C.Clock.left c.args.clock.now; failed = g.K.Keeper.faults c.args.keeper.now; keeper = c.args.keeper.now };
      reads = c.args.steps.now;
    } in (
      looks_none _ old (request_seen c.args.message.now) (answer_in c.refusal-in-Method.result),
      nowhere_all (request_seen c.args.message.now) found.Method 405 (codes "method") c.method_text.result.now c.refusal-in-Method.result c.in-Method.ensures refl c.method_text.ensures c.refusal-in-Method.ensures.reply
          _ g.K.Keeper.tells g.K.Keeper.serves g.K.Keeper.holds g.K.Keeper.passes old.kept,
    )

pub returns-in-Ok-clause-answered : goal.returns-in-Ok-clause-answered
returns-in-Ok-clause-answered g c =
    let old : Counted _ = record {
      kept = record { host = c.args.host.now.host; moments = g.C.Clock.left c.args.clock.now; failed = g.K.Keeper.faults c.args.keeper.now; keeper = c.args.keeper.now };
      reads = c.args.steps.now;
    } in
    let mid : Counted _ = record {
      kept = record { host = c.ready.new.self; moments = g.C.Clock.left c.args.clock.now; failed = g.K.Keeper.faults c.ready.new.keeper; keeper = c.ready.new.keeper };
      reads = c.ready.new.steps;
    } in
    let new : Counted _ = record {
      kept = record { host = c.answered.new.host.host; moments = g.C.Clock.left c.answered.new.clock; failed = g.K.Keeper.faults c.answered.new.keeper; keeper = c.answered.new.keeper };
      reads = c.answered.new.steps;
    } in (
      route_counts _ (request_seen c.args.message.now) c.in-Route.route c.in-Route.ids c.in-Route.ensures old mid new
          (λ fresh. counted_is _ mid old
          (kept_is _ g.K.Keeper.faults (g.C.Clock.left c.args.clock.now) _ _ _ _ (c.ready.ensures.fresh fresh).1 (c.ready.ensures.fresh fresh).2) (c.ready.ensures.still fresh))
          (answer_in c.answered.result) refl c.ready.ensures.reread c.answered.ensures.answered.reread c.answered.ensures.counts,
      asked_all (request_seen c.args.message.now) c.in-Route.route c.in-Route.ids c.in-Route.ensures _ g.K.Keeper.tells g.K.Keeper.serves g.K.Keeper.holds g.K.Keeper.passes old.kept mid.kept
          refl c.ready.ensures.operator
          (λ fresh. kept_is _ g.K.Keeper.faults (g.C.Clock.left c.args.clock.now) _ _ _ _ (c.ready.ensures.fresh fresh).1 (c.ready.ensures.fresh fresh).2)
          c.ready.ensures.reread c.ready.ensures.backs c.ready.ensures.later.1 c.ready.ensures.later.2 new.kept
          c.answered.result c.in-Ok.ensures.ok (c.in-Ok.ensures.counts (λ is. cc)) c.answered.ensures.answered,
    )

pub returns-in-Err-clause-answered : goal.returns-in-Err-clause-answered
returns-in-Err-clause-answered g c =
    let never : c.args.host.now.host.stale ≡ false → ⊥ = λ fresh. false≢true (c.in-Err.ensures.fresh fresh).0 in
    let stale = is_stale c.args.host.now.host.stale never in
    let old : Counted _ = record {
      kept = record { host = c.args.host.now.host; moments = g.C.Clock.left c.args.clock.now; failed = g.K.Keeper.faults c.args.keeper.now; keeper = c.args.keeper.now };
      reads = c.args.steps.now;
    } in
    let mid : Counted _ = record {
      kept = record { host = c.ready.new.self; moments = g.C.Clock.left c.args.clock.now; failed = g.K.Keeper.faults c.ready.new.keeper; keeper = c.ready.new.keeper };
      reads = c.ready.new.steps;
    } in (
      looks_stale _ old mid (request_seen c.args.message.now) (answer_in c.unready.result) refl never (c.ready.ensures.reread stale),
      unready_all (request_seen c.args.message.now) c.in-Route.route c.in-Route.ids c.in-Route.ensures _ g.K.Keeper.tells g.K.Keeper.serves g.K.Keeper.holds g.K.Keeper.passes old.kept mid.kept
          refl c.ready.ensures.operator
          (λ fresh. kept_is _ g.K.Keeper.faults (g.C.Clock.left c.args.clock.now) _ _ _ _ (c.ready.ensures.fresh fresh).1 (c.ready.ensures.fresh fresh).2)
          c.ready.ensures.reread c.ready.ensures.backs c.ready.ensures.later.1 c.ready.ensures.later.2
          g.K.Keeper.faults refl refl c.in-Err.fault c.unready.result stale c.in-Err.ensures.err.0 c.ready.ensures.later.0 c.ready.ensures.stops
          (c.in-Err.ensures.made stale) c.unready.ensures.reply,
    )
