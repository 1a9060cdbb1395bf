use Rattle.std.proofs.Common.{ap, ◌∙◌}
use Rattle.rule_book.specs.ClassicTable.{is_better}
use Rattle.rule_book.specs.Ranks.{rank_among}
use Rattle.entry_windows.proofs.LeagueMembers.{at_member}
use Rattle.entry_windows.proofs.event_ranks.classic_rank_of.Goals as goal

pub returns : goal.returns
returns c = λ row are.
    let own = c.index-rows-place.result in
    let rows = c.args.rows.now in
    c.classic_rank.ensures
    ∙ ap (rank_among is_better rows) (c.index-rows-place.is ∙ at_member row c.args.members.now rows c.place_of-place.result c.args.entry own are c.place_of-place.ensures.within c.place_of-place.ensures.is)
