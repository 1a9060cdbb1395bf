use Rattle.std.proofs.Common.{◌≡◌, [], Some, None, int_lt, of_z, rules, sym, ap, to_z, w32, ◌∙◌, if◌then◌else◌}
use Rattle.std.specs.Option.{option_map_or}
use Rattle.rule_book.specs.HistoryTeam.{is_begun}
use Rattle.season_book.specs.Book.{EntryFacts}
use Rattle.season_book.specs.EntryViews.{score_by}
use Rattle.season_book.specs.LeagueViews.{history_of}
use Rattle.entry_windows.proofs.EventRanks.{more_none, more_some, one_if}
use Rattle.entry_windows.proofs.summary.more_points.Goals as goal

pub returns-in-Some-clause-value : goal.returns-in-Some-clause-value
returns-in-Some-clause-value g c = λ entries are row there.
    let facts = c.args.seen.now.facts in
    let gw = c.args.last in
    let points = c.args.points in
    let read = c.in-Some.score in
    let history : history_of entries c.args.other ≡ row.history = ap (λ o. option_map_or (λ (entry : EntryFacts). entry.history) o []) there in
    let told = sym c.in-Some.is ∙ c.score.ensures.value entries are ∙ ap (λ h. if is_begun h gw then Some (score_by facts h gw) else None) history in
    let fits : to_z w32 (of_z w32 points) ≡ points = search rules in
    let gross : to_z w32 (of_z w32 read.gross) ≡ read.gross = search rules in
    c.more_than.ensures
    ∙ (λ i. one_if (int_lt (fits i) (gross i)))
    ∙ more_some points (is_begun row.history gw) (score_by facts row.history gw) read told

pub returns-in-None-clause-value : goal.returns-in-None-clause-value
returns-in-None-clause-value g c = λ entries are row there.
    let facts = c.args.seen.now.facts in
    let gw = c.args.last in
    let history : history_of entries c.args.other ≡ row.history = ap (λ o. option_map_or (λ (entry : EntryFacts). entry.history) o []) there in
    let told = sym c.in-None.is ∙ c.score.ensures.value entries are ∙ ap (λ h. if is_begun h gw then Some (score_by facts h gw) else None) history in
    more_none c.args.points (is_begun row.history gw) (score_by facts row.history gw) told
