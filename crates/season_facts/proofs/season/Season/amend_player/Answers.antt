use Rattle.std.proofs.Common.{refl, subst, sym}
use Rattle.std.specs.List.{All}
use Rattle.season_facts.specs.Kept.{IsId}
use Rattle.season_facts.proofs.KeptFacts.{AllThere, ids_with_change, there_changed}
use Rattle.season_facts.proofs.season.Season.amend_player.Goals as goal

pub invariant_of-self : goal.invariant_of-self
invariant_of-self c = record {
  player_ids = subst (All (λ p. IsId p.id)) (sym c.set_details.ensures)
      (ids_with_change (λ p. record p { name = c.in_ok-name.name; position = c.args.position }) c.self.inside.players c.in-Some.player (λ p. refl) c.self.invariant.player_ids);
  fixture_ids = c.self.invariant.fixture_ids;
  lines_in_range = c.self.invariant.lines_in_range;
  lines_there = subst (λ new. AllThere new c.self.inside.matches) (sym c.set_details.ensures)
      (there_changed (λ p. record p { name = c.in_ok-name.name; position = c.args.position }) c.self.inside.players c.in-Some.player c.self.inside.matches (λ p. refl) c.self.invariant.lines_there);
}
