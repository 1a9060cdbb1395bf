use Rattle.csv.specs.Records.{fields_of}
use Rattle.fpl_reports.proofs.FieldFacts.{no_kickoff, no_pair}
use Rattle.fpl_reports.proofs.files.fixture_of.Goals as goal

pub returns-in_err-home : goal.returns-in_err-home
returns-in_err-home c =
    rw c.from_residual-in_err-home.ensures
    (λ row spelled. no_pair (fields_of c.args.read.now) row _ _ _ _ _ c.in_ok-id.ensures c.in_err-home.ensures spelled)

pub returns-in_err-kickoff : goal.returns-in_err-kickoff
returns-in_err-kickoff c =
    rw c.from_residual-in_err-kickoff.ensures
    (λ row spelled. no_kickoff (fields_of c.args.read.now) row _ _ _ _ _ c.in_ok-id.ensures c.in_err-kickoff.ensures spelled)

pub returns : goal.returns
returns c =
    let clubs = c.in_ok-home.ensures in
    let (home, away, differ) = clubs in
    record {
      instant = c.in_ok-id.kickoff.now;
      fields_are = cc (c.in_ok-id.ensures, c.in_ok-id-2.ensures.2, home.2, away.2, c.in_ok-gameweek.ensures.2);
      id = (c.in_ok-id-2.ensures.0, c.in_ok-id-2.ensures.1);
      home = (home.0, home.1);
      away = (away.0, away.1);
      gameweek = (c.in_ok-gameweek.ensures.0, c.in_ok-gameweek.ensures.1);
      kickoff = c.in_ok-kickoff.ensures.0;
      two_clubs = differ;
      late = c.in_ok-kickoff.ensures.1;
    }
