use Rattle.std.proofs.lemmas.Result.{err_from_is_err_and}
use Rattle.record_fields.specs.ListReading.{club_row_at}
use Rattle.record_fields.specs.Reading.{many_at}
use Rattle.record_fields.proofs.Loops.{goes_on, ends, is_done}
use Rattle.record_fields.proofs.reading.Reading.clubs.Goals as goal

pub returns-in_err-club : goal.returns-in_err-club
returns-in_err-club c =
    let p = err_from_is_err_and c.from_residual.result c.from_residual.ensures.1 in
    rw (p.1, p.2) (ends club_row_at c.in_err-club.field-0.0 c.clubs.clubs c.args.count c.clubs.counter c.clubs.self (many_at club_row_at c.args.count c.args.self.now) c.clubs-test.true c.in_err-club.ensures c.clubs.invariant)

pub clubs-preserved : goal.clubs-preserved
clubs-preserved c = rw c.in_ok-push.ensures.ok (goes_on club_row_at c.clubs.clubs c.args.count c.clubs.counter c.clubs.self c.in_ok-club.club c.club_row.new.self (many_at club_row_at c.args.count c.args.self.now) c.clubs-test.true c.in_ok-club.ensures c.clubs.invariant)

pub returns : goal.returns
returns c = is_done club_row_at c.clubs.clubs c.args.count c.clubs.counter c.clubs.self (many_at club_row_at c.args.count c.args.self.now) c.clubs-test.false c.clubs.invariant
