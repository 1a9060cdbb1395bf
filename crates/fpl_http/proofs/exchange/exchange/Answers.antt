use Rattle.std.proofs.Common.{arith, take}
use Rattle.std.proofs.lemmas.List.{length-take}
use Rattle.fpl_http.specs.Replies.{Speaks}
use Rattle.fpl_http.proofs.SessionLemmas.{exchanged_stops}
use Rattle.fpl_http.proofs.exchange.exchange.Goals as goal

pub returns-in-Some-clause-exchanged : goal.returns-in-Some-clause-exchanged
returns-in-Some-clause-exchanged g c =
    exchanged_stops (Speaks (g.R.Service.answers c.args.service.now)) c.args.most (g.S.Source.left c.args.src.now) (g.S.Source.left c.read_piece.new.src) c.args.places.now.decoder c.serve_piece.new.places.decoder (g.R.Service.see (c.args.host.now, c.args.keeper.now, c.args.clock.now, c.args.steps.now)) (g.R.Service.see (c.serve_piece.new.host, c.serve_piece.new.keeper, c.serve_piece.new.clock, c.serve_piece.new.steps)) (g.W.Sink.taken c.args.out.now) (g.W.Sink.taken c.serve_piece.new.out) c.in-Some.ending (take c.in-Ok.count c.read_piece.new.into) c.in-Ok.ensures.taken.0 (omega (arith, c.in-Ok.ensures.taken.1, c.in-Ok.ensures.taken.2, length-take c.in-Ok.count c.read_piece.new.into)) (omega (arith, c.requires.room, c.in-Ok.ensures.taken.1, length-take c.in-Ok.count c.read_piece.new.into)) c.in-Some.ensures.served
