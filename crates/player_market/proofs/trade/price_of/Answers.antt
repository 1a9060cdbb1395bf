use Rattle.std.proofs.Common.{sym}
use Rattle.rule_book.specs.Players.{IsPrice}
use Rattle.rule_book.specs.declared.player.Player.{Player}
use Rattle.player_market.proofs.TradeLemmas.{found_has}
use Rattle.player_market.proofs.trade.price_of.Goals as goal

pub returns-in-Some-clause-bound : goal.returns-in-Some-clause-bound
returns-in-Some-clause-bound c = (found_has (λ (p : Player). IsPrice p.price) _ c.args.players.now c.in-Some.there.now c.in-Some.ensures.lawful.priced (sym c.in-Some.ensures.found)).1
