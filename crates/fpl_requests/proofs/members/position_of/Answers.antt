use Rattle.fpl_requests.proofs.MemberLemmas.{told_by_letter}
use Rattle.fpl_requests.proofs.members.position_of.Goals as goal

pub returns : goal.returns
returns c = told_by_letter c.args.letter.now c.from_letter.result c.from_letter.ensures
