use Rattle.std.proofs.Common.{map, ap, ◌∙◌}
use Rattle.rule_book.specs.Tables.{classic_table_of}
use Rattle.season_book.specs.LeagueViews.{ranked_shown}
use Rattle.season_views.proofs.ShownLeagues.{classic_made}
use Rattle.season_views.proofs.classic.classic.Goals as goal

pub returns-clause-value : goal.returns-clause-value
returns-clause-value g c entries are =
    let facts = c.args.seen.now.facts in
    let league = c.args.league.now in
    let rows = c.deref.ensures.value ∙ c.in_ok-rows.ensures.value entries are in
    classic_made facts entries league c.in_ok-copy.field-0 c.start.result c.in_ok-classic_named.field-0 (c.in_ok-copy.ensures ∙ c.name.ensures) c.start.ensures
    (c.in_ok-classic_named.ensures facts.players entries are
    ∙ ap (map (ranked_shown entries)) (c.deref-2.ensures.value ∙ c.in_ok-table.ensures.value ∙ ap classic_table_of rows))
