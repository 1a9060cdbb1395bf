use Rattle.std.proofs.Common.{ℕ, Option, None, subst, sym}
use Rattle.rule_book.specs.declared.line.Line.{Line}
use Rattle.rule_book.specs.MatchFacts.{is_finished, lines_of, without_line}
use Rattle.season_facts.proofs.KeptFacts.{IsAmong, IsRanged, OfMatches, among_none, is_one_of, of_no_line, of_sheet, ranged_none}
use Rattle.season_facts.proofs.season.Season.drop_line.Goals as goal

pub invariant_of-self : goal.invariant_of-self
invariant_of-self c =
    let matches = c.self.inside.matches in
    let fixture = c.the_fixture-fixture.result in
    let player = c.args.player in
    let laws = c.facts_are_maps.ensures in
    let kept : (Q : ℕ → Option Line → Type 0) → OfMatches Q matches → ((p : ℕ) → Q p None) → OfMatches Q c.drop_line.new.self
    = λ Q old none. subst (OfMatches Q) (sym c.drop_line.ensures)
    (of_sheet Q laws.sheets matches fixture (record { lines = without_line (lines_of matches fixture) player; finished = is_finished matches fixture }) old
    (of_no_line Q laws.gone (lines_of matches fixture) player none (old fixture))) in
    record {
      player_ids = c.self.invariant.player_ids;
      fixture_ids = c.self.invariant.fixture_ids;
      lines_in_range = kept IsRanged c.self.invariant.lines_in_range ranged_none;
      lines_there = kept (IsAmong (is_one_of c.self.inside.players)) c.self.invariant.lines_there (among_none (is_one_of c.self.inside.players));
    }
