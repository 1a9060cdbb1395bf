use Rattle.std.proofs.Common.{arith}
use Rattle.season_restoring.proofs.AllLeagues.{full}
use Rattle.season_restoring.proofs.leagues.restored.Goals as goal

pub returns-clause-all : goal.returns-clause-all
returns-clause-all c =
    full c.args.stored.now c.requires.rise c.requires.lawful c.leagues.book c.leagues.invariant.0
    (omega (arith, c.leagues.invariant.1, c.leagues-test.false))
