use Rattle.std.proofs.Common.{◌≡◌, ◌≤◌, ◌<◌, ◌∙◌, [], length, get_or, arith, refl, sym, subst}
use Rattle.std.specs.List.{zip}
use Rattle.rule_book.specs.declared.line.Line.{Line}
use Rattle.json_members.proofs.AppendLemmas.{one_more}
use Rattle.json_members.proofs.ListLemmas.{get_or-zip, length-zip, rest_of}
use Rattle.season_book.specs.Windows.{figures_row}
use Rattle.season_views.proofs.Lists.{read_again}
use Rattle.season_views.proofs.Written.{ended}
use Rattle.season_windows.proofs.windows.write_lines.Goals as goal

pub loop-place-preserved : goal.loop-place-preserved
loop-place-preserved c =
    let players = c.args.players.now in
    let lines = c.args.lines.now in
    let place = c.loop-place.place in
    let player = c.index-players-place.result in
    let below : place < length players = c.loop-place-test.true in
    let within : place < length (zip players lines) = subst (λ n. place < n) (sym (length-zip players lines c.requires)) below in
    let none : Line = record { figures = [] } in
    let line : Line = get_or lines place none in
    let there : line ≡ get_or lines place line = read_again lines place none (subst (λ n. place < n) (sym c.requires) below) in
    let is : (player, line) ≡ get_or (zip players lines) place (player, line) =
    (λ i. (c.index-players-place.is i, there i)) ∙ sym (get_or-zip players lines place player line c.requires below) in
    let wrote = c.in_ok-write_line.ensures in
    record {
      tokens = one_more figures_row (zip players lines) place (player, line) within is wrote c.loop-place.invariant.tokens;
      before = wrote.before ∙ c.loop-place.invariant.before;
    }

pub returns : goal.returns
returns c =
    let players = c.args.players.now in
    let lines = c.args.lines.now in
    let place = c.loop-place.place in
    let past : length (zip players lines) ≤ place = omega (arith, length-zip players lines c.requires, c.loop-place-test.false) in
    ended (rest_of figures_row) (zip players lines) place refl past c.end_array.ensures c.loop-place.invariant.tokens c.loop-place.invariant.before
