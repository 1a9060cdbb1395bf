use Rattle.season_restoring.proofs.EntriesWhole.{early, entries, ordered, teams, transfers}
use Rattle.season_restoring.proofs.managers.managers_of.Goals as goal

pub returns-clause-entries : goal.returns-clause-entries
returns-clause-entries c = entries c.args.stored.now c.requires.lawful c.args.players.now c.in_ok-restored.field-0.managers c.in_ok-restored.ensures.restored c.in_ok-restored.ensures.all

pub returns-clause-teams : goal.returns-clause-teams
returns-clause-teams c = teams c.args.stored.now c.requires.lawful c.args.players.now c.in_ok-restored.field-0.managers c.in_ok-restored.ensures.restored c.in_ok-restored.ensures.all

pub returns-clause-transfers : goal.returns-clause-transfers
returns-clause-transfers c = transfers c.args.stored.now c.requires.lawful c.args.players.now c.in_ok-restored.field-0.managers c.in_ok-restored.ensures.restored c.in_ok-restored.ensures.all

pub returns-clause-ordered : goal.returns-clause-ordered
returns-clause-ordered c = ordered c.args.stored.now c.requires.lawful c.args.players.now c.in_ok-restored.field-0.managers c.in_ok-restored.ensures.restored c.in_ok-restored.ensures.all

pub returns-clause-early : goal.returns-clause-early
returns-clause-early c = early c.args.stored.now c.requires.lawful c.args.players.now c.in_ok-restored.field-0.managers c.in_ok-restored.ensures.restored c.in_ok-restored.ensures.all
