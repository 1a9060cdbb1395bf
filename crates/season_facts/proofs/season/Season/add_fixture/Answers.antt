use Rattle.std.proofs.Common.{subst}
use Rattle.std.specs.List.{All}
use Rattle.rule_book.specs.Calendar.{CalendarFacts, with_fixture}
use Rattle.rule_book.specs.CalendarCalls.{fixture_refusal}
use Rattle.season_facts.specs.Kept.{IsId}
use Rattle.season_facts.proofs.KeptFacts.{ids_with_fixture, kept_or_out}
use Rattle.season_facts.proofs.season.Season.add_fixture.Goals as goal

pub invariant_of-self : goal.invariant_of-self
invariant_of-self c =
    let calendar = c.self.inside.calendar in
    let ids = ids_with_fixture calendar c.args.fixture (subst IsId c.get.ensures.value c.get.ensures.range) c.self.invariant.fixture_ids in
    record {
      player_ids = c.self.invariant.player_ids;
      fixture_ids = kept_or_out (λ (x : CalendarFacts). All (λ f. IsId f.id) x.fixtures) (fixture_refusal calendar c.args.fixture) calendar c.add_fixture.new.self (with_fixture calendar c.args.fixture)
          c.self.invariant.fixture_ids (λ _. ids) c.add_fixture.result c.add_fixture.ensures.judged c.add_fixture.ensures.ok c.add_fixture.ensures.err;
      lines_in_range = c.self.invariant.lines_in_range;
      lines_there = c.self.invariant.lines_there;
    }
