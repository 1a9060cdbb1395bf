use Rattle.std.proofs.Common.{◌∙◌}
use Rattle.store_validation.proofs.Judged.{places_had}
use Rattle.store_validation.proofs.league_rules.is_draw.Goals as goal

pub returns-then-order-members : goal.returns-then-order-members
returns-then-order-members c =
    c.have_places.ensures ∙ places_had c.args.order.now c.args.members.now c.if-order-members.true.0 c.if-order-members.true.1
