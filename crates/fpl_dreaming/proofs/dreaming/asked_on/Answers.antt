use Rattle.std.proofs.Common.{◌∙◌, ◌+◌, ℕ, List, Option, drop, ap, arith, subst, sym}
use Rattle.std.proofs.lemmas.List.{drop_all, get_or_read}
use Rattle.request_handler.specs.Kept.{Kept}
use Rattle.local_requests.specs.Printing.{EndsBy}
use Rattle.squad_rules.specs.Elevens.{Row}
use Rattle.fpl_dreaming.specs.Dreaming.{TellsDream}
use Rattle.fpl_dreaming.proofs.AskedLemmas.{asks_end, asks_lack, asks_more, asks_stop, next_left, went_well}
use Rattle.fpl_dreaming.proofs.RowLists.{one_player}
use Rattle.fpl_dreaming.proofs.dreaming.asked_on.Goals as goal

pub loop-player-preserved : goal.loop-player-preserved
loop-player-preserved g c =
    let at = c.loop-player in
    let inv = at.invariant in
    let players = c.args.players.now in
    let player = c.player-item.result in
    let first : Kept _ = record { host = c.args.host.now; moments = g.C.Clock.left c.args.clock.now; failed = g.K.Keeper.faults c.args.keeper.now; keeper = c.args.keeper.now } in
    let mid : Kept _ = record { host = at.host; moments = g.C.Clock.left at.clock; failed = g.K.Keeper.faults at.keeper; keeper = at.keeper } in
    let end = c.ask_row.new in
    let last : Kept _ = record { host = end.host; moments = g.C.Clock.left end.clock; failed = g.K.Keeper.faults end.keeper; keeper = end.keeper } in
    let more = went_well c.keep.result (sym c.is_err.ensures.value ∙ c.if-is_err.false) c.keep.ensures in
    record {
      on = asks_more _ g.K.Keeper.tells g.K.Keeper.serves g.K.Keeper.holds g.K.Keeper.passes c.args.gameweek players (drop at.player-index players) (drop (at.player-index + 1) players) player
          at.rows.items c.keep.new.rows.items c.in-Ok.row (g.W.Sink.taken c.args.output.now) first mid last
          (next_left players at.player-index player c.loop-player-test.true c.player-item.is) more inv.on c.in-Ok.ensures.asked;
      fresh = c.in-Ok.ensures.fresh;
      rows = one_player players at.player-index at.rows.items c.keep.new.rows.items c.in-Ok.row player c.loop-player-test.true c.requires.rise
          (get_or_read players at.player-index player c.loop-player-test.true c.player-item.is 0) c.in-Ok.ensures.row more inv.rows;
      unwritten = inv.unwritten;
      later = omega (arith, inv.later, c.in-Ok.ensures.later);
    }

pub returns-then-is_err-clause-asked : goal.returns-then-is_err-clause-asked
returns-then-is_err-clause-asked g c =
    let at = c.loop-player in
    let players = c.args.players.now in
    let player = c.player-item.result in
    let first : Kept _ = record { host = c.args.host.now; moments = g.C.Clock.left c.args.clock.now; failed = g.K.Keeper.faults c.args.keeper.now; keeper = c.args.keeper.now } in
    let mid : Kept _ = record { host = at.host; moments = g.C.Clock.left at.clock; failed = g.K.Keeper.faults at.keeper; keeper = at.keeper } in
    let end = c.ask_row.new in
    let last : Kept _ = record { host = end.host; moments = g.C.Clock.left end.clock; failed = g.K.Keeper.faults end.keeper; keeper = end.keeper } in
    asks_lack _ g.K.Keeper.tells g.K.Keeper.serves g.K.Keeper.holds g.K.Keeper.passes c.args.gameweek players (drop at.player-index players) (drop (at.player-index + 1) players) player
    at.rows.items c.in-Ok.row (g.W.Sink.taken c.args.output.now) (g.W.Sink.taken at.output) first mid last
    (next_left players at.player-index player c.loop-player-test.true c.player-item.is) (ap g.W.Sink.taken at.invariant.unwritten) at.invariant.on c.in-Ok.ensures.asked

pub returns-in-Err-clause-asked : goal.returns-in-Err-clause-asked
returns-in-Err-clause-asked g c =
    let at = c.loop-player in
    let players = c.args.players.now in
    let player = c.player-item.result in
    let first : Kept _ = record { host = c.args.host.now; moments = g.C.Clock.left c.args.clock.now; failed = g.K.Keeper.faults c.args.keeper.now; keeper = c.args.keeper.now } in
    let mid : Kept _ = record { host = at.host; moments = g.C.Clock.left at.clock; failed = g.K.Keeper.faults at.keeper; keeper = at.keeper } in
    let end = c.ask_row.new in
    let last : Kept _ = record { host = end.host; moments = g.C.Clock.left end.clock; failed = g.K.Keeper.faults end.keeper; keeper = end.keeper } in
    asks_stop _ g.K.Keeper.tells g.K.Keeper.serves g.K.Keeper.holds g.K.Keeper.passes c.args.gameweek players (drop at.player-index players) (drop (at.player-index + 1) players) player
    at.rows.items c.in-Err.told (g.W.Sink.taken c.args.output.now) (g.W.Sink.taken c.halted.new.output) c.halted.result first mid last
    (next_left players at.player-index player c.loop-player-test.true c.player-item.is)
    (subst (λ (before : Option (List ℕ)). EndsBy c.in-Err.told c.halted.result before (g.W.Sink.taken c.halted.new.output)) (ap g.W.Sink.taken at.invariant.unwritten) c.halted.ensures.ends)
    at.invariant.on c.in-Err.ensures.asked

pub returns-clause-asked : goal.returns-clause-asked
returns-clause-asked g c =
    let at = c.loop-player in
    let players = c.args.players.now in
    let first : Kept _ = record { host = c.args.host.now; moments = g.C.Clock.left c.args.clock.now; failed = g.K.Keeper.faults c.args.keeper.now; keeper = c.args.keeper.now } in
    let last : Kept _ = record { host = at.host; moments = g.C.Clock.left at.clock; failed = g.K.Keeper.faults at.keeper; keeper = at.keeper } in
    asks_end _ g.K.Keeper.tells g.K.Keeper.serves g.K.Keeper.holds g.K.Keeper.passes c.args.gameweek players (drop at.player-index players)
    at.rows.items (g.W.Sink.taken c.args.output.now) (g.W.Sink.taken c.tell.new.output) c.tell.result first last
    (drop_all at.player-index players (omega (arith, c.loop-player-test.false)))
    (subst (λ (before : Option (List ℕ)). TellsDream at.rows.items before (g.W.Sink.taken c.tell.new.output) c.tell.result) (ap g.W.Sink.taken at.invariant.unwritten)
    (subst (λ (rows : List Row). TellsDream rows (g.W.Sink.taken at.output) (g.W.Sink.taken c.tell.new.output) c.tell.result) c.deref.ensures.value c.tell.ensures.told))
    at.invariant.on
