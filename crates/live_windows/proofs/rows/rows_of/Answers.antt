use Rattle.std.proofs.Common.{◌≡◌, ◌≤◌, ◌∙◌, Some, length, map, filter, ap, arith, subst, sym}
use Rattle.std.specs.List.{slice_get}
use Rattle.std.specs.Option.{option_copied}
use Rattle.std.proofs.lemmas.List.{take_all}
use Rattle.rule_book.specs.declared.player.Player.{Player}
use Rattle.rule_book.specs.FigureRange.{IsWithin}
use Rattle.rule_book.specs.Players.{ArePlayers}
use Rattle.rule_book.specs.Ranks.{AllDiffer}
use Rattle.squad_rules.specs.Elevens.{Row}
use Rattle.season_views.specs.Cells.{books_seen}
use Rattle.season_book.specs.DreamTeamWindow.{figures_of}
use Rattle.live_windows.proofs.PlayedRows.{all_kept, kept_more, played_is_live, rows_differ, rows_few}
use Rattle.live_windows.proofs.rows.rows_of.Goals as goal

pub loop-place-preserved : goal.loop-place-preserved
loop-place-preserved g c =
    let seen = c.args.seen.now in
    let facts = seen.facts in
    let place = c.loop-place.place in
    let player : Player = c.unwrap-player.result.now in
    let at : slice_get facts.players place ≡ Some player = ap (λ ps. slice_get ps place) (sym c.players-players.ensures) ∙ sym c.at.ensures.found ∙ ap option_copied c.unwrap-player.ensures in
    let live = played_is_live (books_seen facts seen.managers seen.leagues seen.cups) player place c.args.gameweek at c.requires.from_1 c.requires.locked in
    let row = c.row_of-row.ensures.value (books_seen facts seen.managers seen.leagues seen.cups) c.requires.kept.kept.evaluated live in
    record {
      value = kept_more (λ (p : Player). (p.id, p.position, (figures_of facts p.id c.args.gameweek).points)) (λ (p : Player). (figures_of facts p.id c.args.gameweek).played) facts.players place player
          c.row_of-row.result c.loop-place.rows.items c.keep.new.rows.items at row c.loop-place.invariant.value c.in_ok-keep.ensures;
      near = all_kept (λ (r : Row). IsWithin 1000000 r.2) c.loop-place.rows.items c.keep.new.rows.items c.row_of-row.result c.loop-place.invariant.near c.row_of-row.ensures.near c.in_ok-keep.ensures;
      cost = let before = c.loop-place.invariant.cost in let one = c.row_of-row.ensures.cost in omega (arith, before, one);
    }

pub returns-clause-value : goal.returns-clause-value
returns-clause-value g c =
    let facts = c.args.seen.now.facts in
    let past : length facts.players ≤ c.loop-place.place = omega (arith, c.loop-place-test.false, c.len-place-end.ensures.count, ap length c.players-players.ensures) in
    c.loop-place.invariant.value
    ∙ ap (λ ps. map (λ (p : Player). (p.id, p.position, (figures_of facts p.id c.args.gameweek).points)) (filter (λ (p : Player). (figures_of facts p.id c.args.gameweek).played) ps))
    (take_all c.loop-place.place facts.players past)

pub returns-clause-few : goal.returns-clause-few
returns-clause-few g c =
    let facts = c.args.seen.now.facts in
    let are : ArePlayers facts.players = subst ArePlayers c.players-players.ensures c.len-place-end.ensures.lawful in
    let few = rows_few facts c.args.gameweek are in
    let is = returns-clause-value g c in
    omega (arith, few, ap length is)

pub returns-clause-differ : goal.returns-clause-differ
returns-clause-differ g c =
    let facts = c.args.seen.now.facts in
    let are : ArePlayers facts.players = subst ArePlayers c.players-players.ensures c.len-place-end.ensures.lawful in
    subst (λ rows. AllDiffer (map (λ (r : Row). r.0) rows)) (sym (returns-clause-value g c)) (rows_differ facts c.args.gameweek are)
