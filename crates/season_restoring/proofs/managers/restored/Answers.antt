use Rattle.std.proofs.Common.{arith}
use Rattle.season_restoring.proofs.EntriesWhole.{full}
use Rattle.season_restoring.proofs.managers.restored.Goals as goal

pub returns-clause-all : goal.returns-clause-all
returns-clause-all c =
    full c.args.stored.now c.requires.lawful c.args.players.now c.entries.book.managers c.entries.invariant.0
    (omega (arith, c.entries.invariant.2, c.entries-test.false))
