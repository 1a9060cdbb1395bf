use Rattle.std.proofs.Common.{ℕ, Option}
use Rattle.rule_book.specs.declared.line.Line.{Line}
use Rattle.rule_book.specs.MatchCalls.{not_locked, set_finished}
use Rattle.rule_book.specs.MatchFacts.{lines_of}
use Rattle.season_facts.proofs.KeptFacts.{IsAmong, IsRanged, OfMatches, is_one_of, kept_or_out, of_sheet}
use Rattle.season_facts.proofs.season.Season.set_finished.Goals as goal

pub invariant_of-self : goal.invariant_of-self
invariant_of-self c =
    let matches = c.self.inside.matches in
    let fixture = c.the_fixture-fixture.result in
    let finished = c.args.finished in
    let laws = c.facts_are_maps.ensures in
    let kept : (Q : ℕ → Option Line → Type 0) → OfMatches Q matches → OfMatches Q c.set_finished.new.self
    = λ Q old. kept_or_out (OfMatches Q) (not_locked fixture c.is_in_locked-locked.result) matches c.set_finished.new.self (set_finished matches fixture finished)
    old
    (λ none. of_sheet Q laws.sheets matches fixture (record { lines = lines_of matches fixture; finished = finished }) old (old fixture))
    c.set_finished.result c.set_finished.ensures.judged c.set_finished.ensures.done c.set_finished.ensures.kept in
    record {
      player_ids = c.self.invariant.player_ids;
      fixture_ids = c.self.invariant.fixture_ids;
      lines_in_range = kept IsRanged c.self.invariant.lines_in_range;
      lines_there = kept (IsAmong (is_one_of c.self.inside.players)) c.self.invariant.lines_there;
    }
