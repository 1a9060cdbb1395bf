use Rattle.std.proofs.Common.{◌≡◌, ◌≤◌, ◌∙◌, Some, length, arith, ap, refl, sym}
use Rattle.std.specs.List.{slice_get}
use Rattle.std.proofs.lemmas.Option.{slice_get_within, get_or_from_slice_get}
use Rattle.fpl_base.specs.declared.kinds.Profile.{Profile}
use Rattle.json_members.specs.Tokens.{tokens_of}
use Rattle.json_members.proofs.AppendLemmas.{one_more}
use Rattle.json_members.proofs.ListLemmas.{rest_of}
use Rattle.season_views.proofs.Written.{ended, retold}
use Rattle.live_windows.specs.Gathered.{own_row}
use Rattle.live_windows.proofs.players.write_elements.Goals as goal

pub loop-place-preserved : goal.loop-place-preserved
loop-place-preserved g c =
    let facts = c.args.seen.now.facts in
    let players = facts.players in
    let place = c.loop-place.place in
    let player = c.player_at-player.result.now in
    let at : slice_get players place ≡ Some player = ap (λ ps. slice_get ps place) (sym c.players-in-loop-place.ensures) ∙ c.player_at-player.ensures in
    let within = slice_get_within players place player at in
    let is = sym (get_or_from_slice_get players place player player at) in
    let wrote = retold (ap (λ (profile : Profile). tokens_of (own_row profile c.args.lines.now c.args.team.now player)) c.profile.ensures) c.in_ok-write_player.ensures in
    record {
      tokens = one_more (own_row facts.profile c.args.lines.now c.args.team.now) players place player within is wrote c.loop-place.invariant.tokens;
      before = c.in_ok-write_player.ensures.before ∙ c.loop-place.invariant.before;
    }

pub returns : goal.returns
returns g c =
    let facts = c.args.seen.now.facts in
    let players = facts.players in
    let place = c.loop-place.place in
    let past : length players ≤ place = omega (arith, c.loop-place-test.false, c.len-place-end.ensures.count, ap length c.players.ensures) in
    ended (rest_of (own_row facts.profile c.args.lines.now c.args.team.now)) players place refl past c.end_array.ensures c.loop-place.invariant.tokens c.loop-place.invariant.before
