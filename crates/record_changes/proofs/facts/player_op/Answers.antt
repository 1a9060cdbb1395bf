use Rattle.std.proofs.Common.{◌∙◌, ap, refl, sym}
use Rattle.std.specs.Prelude.{option_copied}
use Rattle.record_changes.proofs.Ops.{player_kept}
use Rattle.record_changes.proofs.facts.player_op.Goals as goal

pub returns-in_ok-price_told-in-Some : goal.returns-in_ok-price_told-in-Some
returns-in_ok-price_told-in-Some c =
    player_kept c.args.season.now c.args.player c.in-Some.there.now c.in_ok-price_told-in-Some.field-0 c.in-Some.there.now.name c.put_player.result
    (sym c.player.ensures ∙ ap option_copied c.in-Some.is) c.in_ok-price_told-in-Some.ensures.told refl c.put_player.ensures
