use Rattle.std.proofs.Common.{◌∙◌}
use Rattle.leagues_and_cups.proofs.Numbers.{found}
use Rattle.leagues_and_cups.proofs.league.League.is_member.Goals as goal

-- the search goes through the members, who rise
pub returns : goal.returns
returns c =
    let there = rw c.deref.ensures.value at (found c.deref.result.now (rw c.deref.ensures.value c.self.invariant.rise) c.args.e c.binary_search.result c.binary_search.ensures.bound c.binary_search.ensures.position) in
    c.is_ok.ensures.value ∙ rw (← c.self.view_is) there
