use Rattle.std.proofs.Common.{arith, refl, sym, ap, [], ◌-◌}
use Rattle.fpl_http.specs.Lines.{strip}
use Rattle.fpl_http.specs.Replies.{Speaks}
use Rattle.fpl_http.proofs.ServedLemmas.{served_none, Appends-nil}
use Rattle.fpl_http.proofs.SessionLemmas.{Consumes-nil, exchanged_reads, talk_more, heard_open, session_ends}
use Rattle.fpl_http.proofs.converse.converse.Goals as goal

pub loop-taken-init : goal.loop-taken-init
loop-taken-init g c = record {
  ready = c.requires.ready;
  heard = ([], Consumes-nil (g.S.Source.left c.args.src.now), refl, served_none (Speaks (g.R.Service.answers c.args.service.now)) [] c.args.places.now.decoder.pending (g.R.Service.see (c.args.host.now, c.args.keeper.now, c.args.clock.now, c.args.steps.now)) (g.W.Sink.taken c.args.out.now) (ap strip (sym c.requires.fresh)));
  waiting = c.requires.waiting;
  empty = c.requires.empty;
  most = omega arith;
  read_later = omega arith;
  write_later = omega arith;
}

pub loop-taken-preserved : goal.loop-taken-preserved
loop-taken-preserved g c =
    let (got, first, long, served) = c.loop-taken.invariant.heard in
    let (heeds, fits) = c.in-Ok.ensures.exchanged in
    record {
      ready = c.in-Ok.ensures.ready;
      heard = talk_more (Speaks (g.R.Service.answers c.args.service.now)) got c.loop-taken.places.decoder c.exchange.new.places.decoder (g.S.Source.left c.args.src.now) (g.S.Source.left c.loop-taken.src) (g.S.Source.left c.exchange.new.src) c.loop-taken.taken c.in-Ok.count (g.R.Service.see (c.args.host.now, c.args.keeper.now, c.args.clock.now, c.args.steps.now)) (g.R.Service.see (c.loop-taken.host, c.loop-taken.keeper, c.loop-taken.clock, c.loop-taken.steps)) (g.R.Service.see (c.exchange.new.host, c.exchange.new.keeper, c.exchange.new.clock, c.exchange.new.steps)) (g.W.Sink.taken c.args.out.now) (g.W.Sink.taken c.loop-taken.out) (g.W.Sink.taken c.exchange.new.out)
          first long served heeds;
      waiting = heeds.waiting;
      empty = c.in-Ok.ensures.empty;
      most = omega (arith, fits, c.loop-taken-test.true);
      read_later = omega (arith, c.loop-taken.invariant.read_later, c.in-Ok.ensures.read_later);
      write_later = omega (arith, c.loop-taken.invariant.write_later, c.in-Ok.ensures.write_later);
    }

pub returns-in-Err-clause-session : goal.returns-in-Err-clause-session
returns-in-Err-clause-session g c =
    let (got, first, long, served) = c.loop-taken.invariant.heard in
    session_ends (Speaks (g.R.Service.answers c.args.service.now)) (4294967296 - c.loop-taken.taken) c.loop-taken.taken (g.S.Source.left c.args.src.now) (g.S.Source.left c.loop-taken.src) (g.S.Source.left c.exchange.new.src) got c.loop-taken.places.decoder c.exchange.new.places.decoder (g.R.Service.see (c.args.host.now, c.args.keeper.now, c.args.clock.now, c.args.steps.now)) (g.R.Service.see (c.loop-taken.host, c.loop-taken.keeper, c.loop-taken.clock, c.loop-taken.steps)) (g.R.Service.see (c.exchange.new.host, c.exchange.new.keeper, c.exchange.new.clock, c.exchange.new.steps)) (g.W.Sink.taken c.args.out.now) (g.W.Sink.taken c.loop-taken.out) (g.W.Sink.taken c.exchange.new.out) c.in-Err.ending
    long c.loop-taken-test.true refl first served c.loop-taken.invariant.waiting c.in-Err.ensures.exchanged

pub returns-clause-session : goal.returns-clause-session
returns-clause-session g c =
    let (got, first, long, served) = c.loop-taken.invariant.heard in (
      got,
      c.loop-taken.places.decoder.pending,
      first,
      omega (arith, long, c.loop-taken-test.false, c.loop-taken.invariant.most),
      heard_open (Speaks (g.R.Service.answers c.args.service.now)) got c.loop-taken.places.decoder (g.R.Service.see (c.args.host.now, c.args.keeper.now, c.args.clock.now, c.args.steps.now)) (g.R.Service.see (c.loop-taken.host, c.loop-taken.keeper, c.loop-taken.clock, c.loop-taken.steps)) (g.R.Service.see (c.loop-taken.host, c.loop-taken.keeper, c.loop-taken.clock, c.loop-taken.steps)) (g.W.Sink.taken c.args.out.now) (g.W.Sink.taken c.loop-taken.out) (g.W.Sink.taken c.loop-taken.out)
          served c.loop-taken.invariant.waiting refl (Appends-nil (g.W.Sink.taken c.loop-taken.out)),
    )

pub returns-in-Err-clause-memory : goal.returns-in-Err-clause-memory
returns-in-Err-clause-memory g c =
    exchanged_reads (Speaks (g.R.Service.answers c.args.service.now)) (4294967296 - c.loop-taken.taken) (g.S.Source.left c.loop-taken.src) (g.S.Source.left c.exchange.new.src) c.loop-taken.places.decoder c.exchange.new.places.decoder (g.R.Service.see (c.loop-taken.host, c.loop-taken.keeper, c.loop-taken.clock, c.loop-taken.steps)) (g.R.Service.see (c.exchange.new.host, c.exchange.new.keeper, c.exchange.new.clock, c.exchange.new.steps)) (g.W.Sink.taken c.loop-taken.out) (g.W.Sink.taken c.exchange.new.out) c.in-Err.ending
    c.in-Err.ensures.exchanged
