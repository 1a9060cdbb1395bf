use Rattle.std.proofs.Common.{◌≡◌, ◌≤◌, ◌∙◌, ◌∷◌, ◌++◌, [], All, append-nil, ap, arith, get_or, length, map, subst, sym}
use Rattle.std.proofs.lemmas.List.{take_all}
use Rattle.std.proofs.lemmas.List.Elements.{All-push}
use Rattle.json_members.proofs.ListLemmas.{length-zip}
use Rattle.rule_book.specs.declared.line.Line.{Line}
use Rattle.rule_book.specs.Figures.{IsLine}
use Rattle.rule_book.specs.MatchFacts.{Lines, lines_of}
use Rattle.rule_book.specs.PlayerFigures.{bonus_at}
use Rattle.live_windows.specs.declared.sums.LiveLine.{LiveLine}
use Rattle.live_windows.specs.Gathered.{line_with, live_line}
use Rattle.season_views.proofs.LinesHeld.{row_among, row_at}
use Rattle.live_windows.proofs.RowsAdded.{mapped_next}
use Rattle.live_windows.proofs.gathering.add_rows.Goals as goal

pub loop-place-init : goal.loop-place-init
loop-place-init g c = record { value = sym (append-nil c.args.lines.now.items); ranges = c.requires.ranges }

pub loop-place-preserved : goal.loop-place-preserved
loop-place-preserved g c =
    let facts = c.args.seen.now.facts in
    let f = c.args.fixture in
    let rows : Lines = lines_of facts.matches f in
    let none : Line = record { figures = [] } in
    let place = c.loop-place.place in
    let player = c.index-players-place.result in
    let line : Line = get_or c.args.figures.now place none in
    let at = row_at c.args.players.now c.args.figures.now rows place player none c.requires.paired c.requires.rows c.loop-place-test.true c.index-players-place.is in
    let told = c.requires.told (player, line) (row_among rows place (player, line) at) in
    let bonus = c.bonus_among-bonus.result in
    let is_bonus : bonus ≡ bonus_at facts.players facts.matches f (player, line) = c.bonus_among-bonus.ensures ∙ told.1 in
    record {
      value = c.in_ok-add_line.ensures ∙ (λ i. c.loop-place.invariant.value i ++ line_with f player line (is_bonus i) ∷ [])
          ∙ mapped_next (live_line facts f) c.args.lines.now.items rows place (player, line) at;
      ranges = subst (All (λ (own : LiveLine). IsLine own.line)) (sym c.in_ok-add_line.ensures)
          (All-push (λ (own : LiveLine). IsLine own.line) c.loop-place.lines.items (line_with f player line bonus) c.loop-place.invariant.ranges told.0);
    }

pub returns-clause-value : goal.returns-clause-value
returns-clause-value g c =
    let facts = c.args.seen.now.facts in
    let f = c.args.fixture in
    let rows : Lines = lines_of facts.matches f in
    let place = c.loop-place.place in
    let past : length rows ≤ place = omega (arith, ap length c.requires.rows, length-zip c.args.players.now c.args.figures.now c.requires.paired, c.loop-place-test.false) in
    c.loop-place.invariant.value ∙ ap (λ (rs : Lines). c.args.lines.now.items ++ map (live_line facts f) rs) (take_all place rows past)
