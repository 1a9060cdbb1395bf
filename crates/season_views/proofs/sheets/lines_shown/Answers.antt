use Rattle.std.proofs.Common.{◌≡◌, ◌<◌, ◌≤◌, ℕ, true, [], length, get_or, map, arith, subst, sym, ap, ◌∙◌}
use Rattle.std.specs.Option.{unwrap_or}
use Rattle.std.proofs.lemmas.List.{length-map, take_all}
use Rattle.rule_book.specs.declared.line.Line.{Line}
use Rattle.rule_book.specs.ById.{at_id}
use Rattle.rule_book.specs.MatchFacts.{Lines, lines_of, players_in}
use Rattle.season_nodes.specs.Season.{is_live, line_worth}
use Rattle.season_nodes.specs.declared.nodes.Node.TheVariants as node
use Rattle.season_book.specs.Views.{line_shown}
use Rattle.season_views.specs.Cells.{books_seen, line_with}
use Rattle.season_rules.proofs.Lists.{mapped_more}
use Rattle.season_views.proofs.Lists.{read_again}
use Rattle.season_views.proofs.ShownLines.{among_at, bonus_is_live, line_is_live, player_at, row_shown}
use Rattle.season_views.proofs.sheets.lines_shown.Goals as goal

pub loop-player-preserved : goal.loop-player-preserved
loop-player-preserved g c =
    let facts = c.args.seen.now.facts in
    let managers = c.requires.0 in
    let leagues = c.requires.1 in
    let cups = c.requires.2 in
    let b = books_seen facts managers leagues cups in
    let f = c.args.fixture in
    let lines : Lines = lines_of facts.matches f in
    let i = c.loop-player.player-index in
    let none : ℕ × Line = (0, record { figures = [] }) in
    let row : ℕ × Line = get_or lines i none in
    let players : c.players_of-players.result.now ≡ players_in lines = c.players_of-players.ensures in
    let within : i < length lines = omega (arith, c.loop-player-test.true, ap length players, length-map lines (λ (r : ℕ × Line). r.0)) in
    let is : c.player-item.result ≡ row.0 = c.player-item.is ∙ ap (λ ps. get_or ps i c.player-item.result) players ∙ player_at lines i c.player-item.result none within in
    let told = c.lines_are_told.ensures b f row c.requires.3.season (among_at lines i none within) in
    let evaluated = c.requires.3.evaluated in
    let bonuses = c.bonuses_held-bonuses.ensures.value b evaluated (bonus_is_live facts managers leagues cups f i within) in
    let live = line_is_live facts managers leagues cups f row told in
    let shown = c.line_shown.ensures.value b evaluated (subst (λ p. is_live b (node.Line f p) ≡ true) (sym is) live)
    ∙ ap (λ p. line_with p (line_worth b f p) (unwrap_or (at_id c.bonuses_held-bonuses.result.now p) 0)) is in
    record {
      value = mapped_more (line_shown facts f) lines i row c.line_shown.result c.loop-player.shown c.push.new.self within (read_again lines i none within)
          (row_shown facts managers leagues cups f row told c.bonuses_held-bonuses.result.now c.line_shown.result bonuses shown)
          c.loop-player.invariant.value c.in_ok-push.ensures.ok;
      cost = let before = c.loop-player.invariant.cost in let one = c.line_shown.ensures.cost in omega (arith, before, one);
    }

pub returns-clause-value : goal.returns-clause-value
returns-clause-value g c =
    let lines : Lines = lines_of c.args.seen.now.facts.matches c.args.fixture in
    let players : c.players_of-players.result.now ≡ players_in lines =
    c.players_of-players.ensures in
    let past : length lines ≤ c.loop-player.player-index = omega (arith, c.loop-player-test.false, ap length players, length-map lines (λ (r : ℕ × Line). r.0)) in
    c.loop-player.invariant.value ∙ ap (map (line_shown c.args.seen.now.facts c.args.fixture)) (take_all c.loop-player.player-index lines past)
