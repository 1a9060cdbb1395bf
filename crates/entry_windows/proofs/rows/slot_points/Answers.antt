use Rattle.std.proofs.Common.{◌≡◌, ◌<◌, ◌≤◌, ◌-◌, ◌∙◌, Some, length, get_or, arith, of_z, rules, sym, ap, to_z, w32}
use Rattle.std.specs.List.{slice_get}
use Rattle.std.proofs.lemmas.Option.{slice_get-get_or}
use Rattle.rule_book.specs.declared.team_score.Figures.{Figures}
use Rattle.season_views.specs.Cells.{books_seen}
use Rattle.entry_windows.proofs.Bench.{slot_at}
use Rattle.entry_windows.proofs.Players.{figures_held}
use Rattle.entry_windows.proofs.rows.slot_points.Goals as goal

pub returns-clause-value : goal.returns-clause-value
returns-clause-value g c =
    let seen = c.args.seen.now in
    let b = books_seen seen.facts seen.managers seen.leagues seen.cups in
    let evaluated = c.requires.kept.kept.evaluated in
    let picks = c.args.played.now.team.picks in
    let slot = c.args.slot in
    let read = c.index-played-place.result in
    let pick = get_or picks (c.from-place.result - 1) read in
    let one : 1 ≤ c.args.gameweek = search rules in
    let long : length picks ≡ 15 = search rules in
    let within : slot - 1 < length picks = omega (arith, long, c.requires.slot.0, c.requires.slot.1) in
    let there : slice_get picks (slot - 1) ≡ Some pick = slice_get-get_or picks (slot - 1) read within ∙ ap (λ k. Some (get_or picks (k - 1) read)) (sym c.from-place.ensures) in
    let figures = figures_held b c.requires.kept.kept.season pick.player c.args.gameweek c.gameweek_held.result one c.requires.locked (c.gameweek_held.ensures.value b evaluated) (c.gameweek_held.ensures.none b evaluated) in
    let fits : to_z w32 (of_z w32 c.gameweek_held.result.points) ≡ c.gameweek_held.result.points = search rules in
    fits ∙ ap (λ (f : Figures). f.points) figures ∙ sym (slot_at seen.facts c.args.played.now.team c.args.gameweek slot pick there)
