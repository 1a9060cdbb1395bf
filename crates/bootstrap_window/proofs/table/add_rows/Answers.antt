use Rattle.std.proofs.Common.{◌≡◌, ◌<◌, ◌≤◌, ◌+ℤ◌, ◌∙◌, ◌++◌, [], append-nil, length, get_or, pos, arith, ap, refl, subst, sym}
use Rattle.std.proofs.lemmas.List.{take_all}
use Rattle.json_members.proofs.ListLemmas.{length-zip}
use Rattle.rule_book.specs.declared.line.Line.{Line}
use Rattle.rule_book.specs.BonusPoints.{bps_of}
use Rattle.rule_book.specs.ById.{at_id}
use Rattle.rule_book.specs.MatchFacts.{Lines, lines_of}
use Rattle.rule_book.specs.PlayerFigures.{position_in}
use Rattle.rule_book.specs.Points.{points_of}
use Rattle.season_book.specs.Elements.{totals_over}
use Rattle.season_book.specs.LineSums.{line_bonus}
use Rattle.bootstrap_window.specs.declared.totals.Totals.{Totals}
use Rattle.season_views.proofs.LinesHeld.{row_among, row_at, row_none}
use Rattle.bootstrap_window.proofs.TableFacts.{beside, row_more, same_more}
use Rattle.bootstrap_window.proofs.table.add_rows.Goals as goal

pub loop-place-init : goal.loop-place-init
loop-place-init g c = record {
  sums = λ before sums p. sums p ∙ ap (totals_over c.args.seen.now.facts p) (sym (append-nil (before p)));
  small = c.requires.small;
  same = λ p none. refl;
}

pub add_row-requires-clause-line : goal.add_row-requires-clause-line
add_row-requires-clause-line g c =
    let rows : Lines = lines_of c.args.seen.now.facts.matches c.args.fixture in
    let none : Line = record { figures = [] } in
    let place = c.loop-place.place in
    let player = c.index-players-place.result in
    let at = row_at c.args.players.now c.args.lines.now rows place player none c.requires.paired c.requires.rows c.loop-place-test.true c.index-players-place.is in
    (c.requires.told (player, get_or c.args.lines.now place none) (row_among rows place (player, get_or c.args.lines.now place none) at)).0

pub add_row-requires-clause-few : goal.add_row-requires-clause-few
add_row-requires-clause-few g c =
    let rows : Lines = lines_of c.args.seen.now.facts.matches c.args.fixture in
    let none : Line = record { figures = [] } in
    let place = c.loop-place.place in
    let player = c.index-players-place.result in
    let at = row_at c.args.players.now c.args.lines.now rows place player none c.requires.paired c.requires.rows c.loop-place-test.true c.index-players-place.is in
    let absent = row_none rows place (player, get_or c.args.lines.now place none) c.requires.ascending at in
    subst (λ (t : Totals). t.lines < 400) (sym (c.loop-place.invariant.same player absent)) (c.requires.few player)

pub loop-place-preserved : goal.loop-place-preserved
loop-place-preserved g c =
    let facts = c.args.seen.now.facts in
    let f = c.args.fixture in
    let rows : Lines = lines_of facts.matches f in
    let none : Line = record { figures = [] } in
    let place = c.loop-place.place in
    let player = c.index-players-place.result in
    let line : Line = get_or c.args.lines.now place none in
    let at = row_at c.args.players.now c.args.lines.now rows place player none c.requires.paired c.requires.rows c.loop-place-test.true c.index-players-place.is in
    let absent = row_none rows place (player, line) c.requires.ascending at in
    let told = c.requires.told (player, line) (row_among rows place (player, line) at) in
    let bonus = c.bonus_among-bonus.result in
    let is_bonus : bonus ≡ line_bonus facts player (f, line) = c.bonus_among-bonus.ensures ∙ told.1 in
    let points = points_of facts.profile (position_in facts.players player) line in
    let old = c.loop-place.table in
    let new = c.add_row.new.table in
    record {
      sums = λ before start.
          row_more facts f rows place (player, line) old new at absent (points +ℤ pos bonus) (bps_of (position_in facts.players player) line) bonus before
          c.in_ok-add_row.ensures.own (ap (λ n. points +ℤ pos n) is_bonus) refl is_bonus c.in_ok-add_row.ensures.others (c.loop-place.invariant.sums before start);
      small = c.in_ok-add_row.ensures.small;
      same = same_more facts f rows place (player, line) old new at absent c.args.table.now c.in_ok-add_row.ensures.others c.loop-place.invariant.same;
    }

pub returns-clause-value : goal.returns-clause-value
returns-clause-value g c = λ before start p.
    let facts = c.args.seen.now.facts in
    let f = c.args.fixture in
    let rows : Lines = lines_of facts.matches f in
    let place = c.loop-place.place in
    let past : length rows ≤ place = omega (arith, ap length c.requires.rows, length-zip c.args.players.now c.args.lines.now c.requires.paired, c.loop-place-test.false) in
    c.loop-place.invariant.sums before start p ∙ ap (λ (rs : Lines). totals_over facts p (before p ++ beside f (at_id rs p))) (take_all place rows past)
