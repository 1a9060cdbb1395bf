use Rattle.std.proofs.Common.{subst}
use Rattle.std.specs.List.Sorted.{IsBinarySearchResult}
use Rattle.std.specs.Ordering.{nat_cmp}
use Rattle.league_windows.proofs.MemberPlaces.{at_place, is_found, of_member}
use Rattle.league_windows.proofs.places.rank_of.Goals as goal

pub unreachable-requires : goal.unreachable-requires
unreachable-requires c =
    let members = c.args.members.now in
    is_found members c.requires.rise c.args.entry c.in-Err.field-0 (subst (IsBinarySearchResult (λ m. nat_cmp m c.args.entry) members) c.in-Err.is c.binary_search.ensures.position) c.requires.member

pub returns : goal.returns
returns c = λ rank are.
    let members = c.args.members.now in
    let at = at_place members c.requires.rise c.args.entry c.in-Ok.place (subst (IsBinarySearchResult (λ m. nat_cmp m c.args.entry) members) c.in-Ok.is c.binary_search.ensures.position) in
    of_member members c.requires.rise c.args.entry rank c.args.ranks.now c.in-Ok.place 0 are at.0 at.1
