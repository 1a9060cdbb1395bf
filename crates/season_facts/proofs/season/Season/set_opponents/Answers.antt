use Rattle.std.proofs.Common.{subst, sym}
use Rattle.std.specs.List.{All}
use Rattle.rule_book.specs.Calendar.{CalendarFacts}
use Rattle.season_facts.specs.Kept.{IsId}
use Rattle.season_facts.proofs.KeptFacts.{ids_with_opponents}
use Rattle.season_facts.proofs.season.Season.set_opponents.Goals as goal

pub invariant_of-self : goal.invariant_of-self
invariant_of-self c =
    let ids = ids_with_opponents c.self.inside.calendar c.the_fixture-fixture.result c.args.home c.args.away c.self.invariant.fixture_ids in
    record {
      player_ids = c.self.invariant.player_ids;
      fixture_ids = subst (λ (x : CalendarFacts). All (λ f. IsId f.id) x.fixtures) (sym c.set_opponents.ensures) ids;
      lines_in_range = c.self.invariant.lines_in_range;
      lines_there = c.self.invariant.lines_there;
    }
