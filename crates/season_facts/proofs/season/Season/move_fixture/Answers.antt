use Rattle.std.specs.List.{All}
use Rattle.rule_book.specs.Calendar.{CalendarFacts, with_move}
use Rattle.rule_book.specs.CalendarCalls.{move_refusal}
use Rattle.season_facts.specs.Kept.{IsId}
use Rattle.season_facts.proofs.KeptFacts.{ids_with_move, kept_or_out}
use Rattle.season_facts.proofs.season.Season.move_fixture.Goals as goal

pub invariant_of-self : goal.invariant_of-self
invariant_of-self c =
    let calendar = c.self.inside.calendar in
    let fixture = c.the_fixture-fixture.result in
    let ids = ids_with_move calendar fixture c.args.gameweek c.args.kickoff c.self.invariant.fixture_ids in
    record {
      player_ids = c.self.invariant.player_ids;
      fixture_ids = kept_or_out (λ (x : CalendarFacts). All (λ f. IsId f.id) x.fixtures) (move_refusal calendar fixture c.args.gameweek c.args.kickoff c.has_facts-has_facts.result) calendar c.move_fixture.new.self (with_move calendar fixture c.args.gameweek c.args.kickoff)
          c.self.invariant.fixture_ids (λ _. ids) c.move_fixture.result c.move_fixture.ensures.judged c.move_fixture.ensures.ok c.move_fixture.ensures.err;
      lines_in_range = c.self.invariant.lines_in_range;
      lines_there = c.self.invariant.lines_there;
    }
