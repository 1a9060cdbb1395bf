use Rattle.std.proofs.Common.{subst}
use Rattle.std.specs.List.Sorted.{IsBinarySearchResult}
use Rattle.std.specs.Ordering.{nat_cmp}
use Rattle.league_windows.proofs.MemberPlaces.{at_place, is_found}
use Rattle.entry_windows.proofs.event_ranks.place_of.Goals as goal

pub unreachable-requires : goal.unreachable-requires
unreachable-requires c =
    let members = c.args.members.now in
    is_found members c.requires.rise c.args.entry c.in-Err.field-0 (subst (IsBinarySearchResult (λ m. nat_cmp m c.args.entry) members) c.in-Err.is c.binary_search.ensures.position) c.requires.member

pub returns-clause-within : goal.returns-clause-within
returns-clause-within c =
    let members = c.args.members.now in
    (at_place members c.requires.rise c.args.entry c.in-Ok.place (subst (IsBinarySearchResult (λ m. nat_cmp m c.args.entry) members) c.in-Ok.is c.binary_search.ensures.position)).0

pub returns-clause-is : goal.returns-clause-is
returns-clause-is c =
    let members = c.args.members.now in
    (at_place members c.requires.rise c.args.entry c.in-Ok.place (subst (IsBinarySearchResult (λ m. nat_cmp m c.args.entry) members) c.in-Ok.is c.binary_search.ensures.position)).1
