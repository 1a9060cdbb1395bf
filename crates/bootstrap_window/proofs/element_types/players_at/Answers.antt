use Rattle.std.proofs.Common.{◌<◌, ◌+◌, ◌∙◌, length, take, arith, ap, sym}
use Rattle.rule_book.specs.declared.player.Player.{Player}
use Rattle.season_book.specs.ElementTypes.{is_position, players_at}
use Rattle.season_views.proofs.Numbered.{stands}
use Rattle.bootstrap_window.proofs.Counting.{count_next}
use Rattle.bootstrap_window.proofs.element_types.players_at.Goals as goal

pub loop-place-preserved : goal.loop-place-preserved
loop-place-preserved c =
    let players = c.args.players.now in
    let place = c.loop-place.place in
    let within : place < length players = omega (arith, c.loop-place-test.true, c.len-place-end.ensures.count) in
    let at = stands players place within in
    record {
      many = ap (λ n. n + c.one_at-many.result) c.loop-place.invariant.many
          ∙ ap (λ n. players_at (take place players) c.args.position + n) (c.one_at-many.ensures.value at.0 at.1)
          ∙ sym (count_next (λ (player : Player). is_position c.args.position player.position) players place at.0 at.1);
      few = omega (arith, c.one_at-many.ensures.bound, c.loop-place.invariant.few);
    }
