use Rattle.std.proofs.Common.{◌≡◌, ◌≤◌, ◌<◌, ◌+◌, ◌∙◌, List, length, get_or, pos, ap, arith, refl, rules, to_z, of_z, w32}
use Rattle.std.proofs.lemmas.List.{get_or-map, length-map}
use Rattle.std.proofs.lemmas.List.FromFn.{length-enumerate_from}
use Rattle.std.proofs.lemmas.Option.{slice_get-get_or}
use Rattle.json_members.specs.Tokens.{tokens_of}
use Rattle.json_members.proofs.ListLemmas.{numbered_more, rest_of}
use Rattle.fpl_base.specs.declared.kinds.Position.TheVariants.{Keeper}
use Rattle.squad_rules.specs.Elevens.{Row}
use Rattle.season_book.specs.Windows.{numbered}
use Rattle.season_book.specs.DreamTeamWindow.{dream_row}
use Rattle.season_book.specs.TeamOfTheWeek.{team_of_the_week}
use Rattle.season_views.proofs.Written.{ended, retold}
use Rattle.live_windows.proofs.Members.{members, points_found}
use Rattle.live_windows.proofs.team.write_team.Goals as goal

pub loop-place-preserved : goal.loop-place-preserved
loop-place-preserved c =
    let rows = c.args.rows.now in
    let team : List Row = team_of_the_week rows in
    let place = c.loop-place.place in
    let player = c.index-team-place.result in
    let none : Row = (0, Keeper, pos 0) in
    let row : Row = get_or team place none in
    let below : place < length team = omega (arith, c.loop-place-test.true, ap length c.requires.team, length-map team (λ (r : Row). r.0)) in
    let same : player ≡ row.0 = c.index-team-place.is ∙ ap (λ ps. get_or ps place player) c.requires.team ∙ get_or-map (λ (r : Row). r.0) team place none player below in
    let points = points_found rows row player c.points_among.result c.requires.differ (members rows place none below) same c.points_among.ensures in
    let whole : to_z w32 (of_z w32 c.points_among.result) ≡ c.points_among.result = search rules in
    let wrote = retold (λ i. tokens_of (dream_row (place + 1, (same i, row.1, (whole ∙ points) i)))) (c.in_ok-write_dream_row.ensures row.1) in
    record {
      tokens = numbered_more dream_row team place (place + 1) row (slice_get-get_or team place none below) (omega arith) wrote c.loop-place.invariant.tokens;
      before = wrote.before ∙ c.loop-place.invariant.before;
    }

pub returns-in_err-write_dream_row : goal.returns-in_err-write_dream_row
returns-in_err-write_dream_row c = record { tokens = search rules; before = (c.in_err-write_dream_row.ensures Keeper).before ∙ c.loop-place.invariant.before }

pub returns : goal.returns
returns c =
    let team : List Row = team_of_the_week c.args.rows.now in
    let place = c.loop-place.place in
    let past : length (numbered team) ≤ place = omega (arith, length-enumerate_from 1 team, c.loop-place-test.false, ap length c.requires.team, length-map team (λ (r : Row). r.0)) in
    ended (rest_of dream_row) (numbered team) place refl past c.end_array.ensures c.loop-place.invariant.tokens c.loop-place.invariant.before
