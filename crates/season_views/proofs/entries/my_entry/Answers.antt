use Rattle.std.proofs.Common.{◌≡◌, ◌≤◌, pos, Some, None, arith, rules, ap, subst, sym, ◌∙◌, if◌then◌else◌, w32, FitsSigned}
use Rattle.std.proofs.lemmas.Int.{to_z-of_z}
use Rattle.rule_book.specs.HistoryRules.{is_started}
use Rattle.rule_book.specs.HistoryTeam.{is_begun}
use Rattle.rule_book.specs.HistoryTransfers.{FreeTold, cost_at}
use Rattle.rule_book.specs.PlayerFigures.{position_in}
use Rattle.rule_book.proofs.TeamFacts.{first_is_the_start}
use Rattle.season_ledger.specs.Rows.{AllUpTo}
use Rattle.manager_book.specs.Managers.{season_of}
use Rattle.season_book.specs.EntryViews.{me_shown}
use Rattle.season_graph.specs.Told.{total_since as total_told}
use Rattle.season_nodes.specs.Season.{is_live}
use Rattle.season_nodes.specs.declared.nodes.Node.TheVariants as node
use Rattle.season_views.specs.Cells.{books_seen}
use Rattle.season_views.specs.Entries.{me_with, total_since}
use Rattle.season_views.proofs.Told.{begun_from, first_up_to, me_told, not_both, passed_over, total_whole}
use Rattle.season_views.proofs.Totals.{first_start, total_is}
use Rattle.season_views.proofs.entries.my_entry.Goals as goal

pub returns-in_err-_first-clause-value : goal.returns-in_err-_first-clause-value
returns-in_err-_first-clause-value g c h stands =
    let facts = c.args.seen.now.facts in
    let none : c.from_residual.result ≡ None = search rules in
    none ∙ passed_over (is_started h) (Some (me_shown facts h c.args.entry c.args.last)) None (c.in_err-_first.ensures.history (position_in facts.players) h stands)

pub returns-in_err-team-clause-value : goal.returns-in_err-team-clause-value
returns-in_err-team-clause-value g c h stands =
    let facts = c.args.seen.now.facts in
    let gameweek = c.gameweek_seen-gameweek.result in
    let rows = season_of c.args.seen.now.managers c.args.entry in
    let up : AllUpTo gameweek rows = subst (λ w. AllUpTo w rows) (sym c.gameweek_seen-gameweek.ensures) c.requires.later in
    let from = first_up_to gameweek _ rows c.in_ok-_first.ensures.rows up in
    not_both (is_begun h gameweek) (c.in_err-team.ensures.history (position_in facts.players) h stands)
    (begun_from h _ gameweek (c.in_ok-_first.ensures.history (position_in facts.players) h stands) from)

pub returns-clause-value : goal.returns-clause-value
returns-clause-value g c h stands =
    let facts = c.args.seen.now.facts in
    let managers = c.args.seen.now.managers in
    let leagues = c.requires.kept.0 in
    let cups = c.requires.kept.1 in
    let e = c.args.entry in
    let b = books_seen facts managers leagues cups in
    let gameweek = c.gameweek_seen-gameweek.result in
    let issued : 1 ≤ e = search rules in
    let one : c.unwrap.result ≡ 1 = search rules in
    let started = c.in_ok-_first.ensures.history (position_in facts.players) h stands in
    let tell = c.rows_tell.ensures (position_in facts.players) (season_of managers e) h stands in
    let total : c.total_held-total.result ≡ total_since facts h 1 =
    c.total_held-total.ensures.value b c.requires.kept.2.evaluated
    ∙ ap (λ s. if is_live b (node.Total e s) then total_told b e s else pos 0) one
    ∙ total_is facts managers leagues cups e 1 h issued (omega arith) (first_start facts managers leagues cups e) tell c.requires.profile in
    let fits : FitsSigned w32 c.total_held-total.result = search rules in
    let start = sym ((first_is_the_start h (Some _)).0 started) in
    me_told facts h gameweek c.in_ok-team.team (c.in_ok-team.ensures.history (position_in facts.players) h stands) e c.args.last c.cost-cost.result c.free-free.result
    c.total_held-total.result c.me_with.result c.gameweek_seen-gameweek.ensures started.0
    (subst (λ profile. FreeTold profile h gameweek c.free-free.result) c.requires.profile (c.free-free.ensures.history (position_in facts.players) h stands))
    (c.cost-cost.ensures.history (position_in facts.players) h stands ∙ ap (λ profile. cost_at profile h gameweek) c.requires.profile)
    (total_whole facts h _ c.total_held-total.result start total)
    (c.me_with.ensures ∙ ap (me_with facts e c.args.last c.in_ok-team.team c.free-free.result c.cost-cost.result) (to_z-of_z w32 c.total_held-total.result fits))
