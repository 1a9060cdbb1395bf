use Rattle.std.proofs.Common.{◌≡◌, ℕ, Option, None, Some, true, subst, sym}
use Rattle.rule_book.specs.declared.line.Line.{Line}
use Rattle.rule_book.specs.MatchCalls.{line_refusal, put_line}
use Rattle.rule_book.specs.MatchFacts.{is_finished, lines_of, with_line}
use Rattle.season_book.specs.Book.{Facts}
use Rattle.season_book.specs.Commands.{has_player}
use Rattle.season_facts.proofs.KeptFacts.{IsAmong, IsRanged, OfMatches, is_one_of, kept_or_out, line_in_range, of_line, of_sheet, ranged_some}
use Rattle.season_facts.proofs.season.Season.put_line.Goals as goal

pub invariant_of-self : goal.invariant_of-self
invariant_of-self c =
    let matches = c.self.inside.matches in
    let fixture = c.the_fixture-fixture.result in
    let locked = c.is_in_locked-locked.result in
    let player = c.args.player in
    let line = c.args.line.now in
    let laws = c.facts_are_maps.ensures in
    let there = subst (λ (f : Facts). has_player f player ≡ true) (sym c.self.view_is) c.requires.player in
    let kept : (Q : ℕ → Option Line → Type 0) → OfMatches Q matches → (line_refusal matches fixture locked player line ≡ None → Q player (Some line)) → OfMatches Q c.put_line.new.self
    = λ Q old new. kept_or_out (OfMatches Q) (line_refusal matches fixture locked player line) matches c.put_line.new.self (put_line matches fixture player line)
    old
    (λ none. of_sheet Q laws.sheets matches fixture (record { lines = with_line (lines_of matches fixture) player line; finished = is_finished matches fixture }) old
    (of_line Q laws.lines (lines_of matches fixture) player line (new none) (old fixture)))
    c.put_line.result c.put_line.ensures.judged c.put_line.ensures.done c.put_line.ensures.kept in
    record {
      player_ids = c.self.invariant.player_ids;
      fixture_ids = c.self.invariant.fixture_ids;
      lines_in_range = kept IsRanged c.self.invariant.lines_in_range (λ none. ranged_some player line (line_in_range matches fixture locked player line none));
      lines_there = kept (IsAmong (is_one_of c.self.inside.players)) c.self.invariant.lines_there (λ none some. there);
    }
