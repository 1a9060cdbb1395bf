use Rattle.std.proofs.Common.{refl}
use Rattle.std.specs.List.{All}
use Rattle.rule_book.specs.Players.{price_refusal, with_price}
use Rattle.season_facts.specs.Kept.{IsId}
use Rattle.season_facts.proofs.KeptFacts.{AllThere, ids_with_change, kept_or, there_changed}
use Rattle.season_facts.proofs.season.Season.set_price.Goals as goal

pub invariant_of-self : goal.invariant_of-self
invariant_of-self c =
    let players = c.self.inside.players in
    let matches = c.self.inside.matches in
    let there = c.self.invariant.lines_there in
    let tenths = c.unwrap-tenths.result in
    let ids = ids_with_change (λ p. record p { price = tenths }) players c.args.player (λ p. refl) c.self.invariant.player_ids in
    record {
      player_ids = kept_or (All (λ p. IsId p.id)) (price_refusal tenths) players c.set_price.new.self (with_price players c.args.player tenths)
          c.self.invariant.player_ids (λ _. ids) c.set_price.result c.set_price.ensures.judged c.set_price.ensures.ok c.set_price.ensures.err;
      fixture_ids = c.self.invariant.fixture_ids;
      lines_in_range = c.self.invariant.lines_in_range;
      lines_there = kept_or (λ new. AllThere new matches) (price_refusal tenths) players c.set_price.new.self (with_price players c.args.player tenths)
          there (λ _. there_changed (λ p. record p { price = tenths }) players c.args.player matches (λ p. refl) there) c.set_price.result c.set_price.ensures.judged c.set_price.ensures.ok c.set_price.ensures.err;
    }
