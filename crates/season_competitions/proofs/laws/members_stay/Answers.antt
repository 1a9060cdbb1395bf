use Rattle.season_competitions.proofs.MemberFacts.{members_stay}
use Rattle.season_competitions.proofs.laws.members_stay.Goals as goal

pub returns : goal.returns
returns c = members_stay
