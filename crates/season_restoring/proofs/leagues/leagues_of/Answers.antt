use Rattle.season_restoring.proofs.AllLeagues.{entries, leagues_told, members_told, ordered}
use Rattle.season_restoring.proofs.leagues.leagues_of.Goals as goal

pub returns-clause-leagues : goal.returns-clause-leagues
returns-clause-leagues c = leagues_told c.args.stored.now c.requires.rise c.requires.lawful c.in_ok-restored.field-0 c.in_ok-restored.ensures.restored c.in_ok-restored.ensures.all

pub returns-clause-members : goal.returns-clause-members
returns-clause-members c = members_told c.args.stored.now c.requires.rise c.requires.lawful c.in_ok-restored.field-0 c.in_ok-restored.ensures.restored c.in_ok-restored.ensures.all

pub returns-clause-ordered : goal.returns-clause-ordered
returns-clause-ordered c = ordered c.args.stored.now c.requires.rise c.requires.lawful c.in_ok-restored.field-0 c.in_ok-restored.ensures.restored

pub returns-clause-entries : goal.returns-clause-entries
returns-clause-entries c = entries c.args.stored.now c.requires.rise c.requires.lawful c.in_ok-restored.field-0 c.in_ok-restored.ensures.restored
