use Rattle.std.proofs.Common.{◌≡◌, ℕ, Option, None, true, subst, sym}
use Rattle.std.specs.List.{list_all}
use Rattle.rule_book.specs.declared.line.Line.{Line}
use Rattle.rule_book.specs.MatchCalls.{put_sheet, sheet_refusal}
use Rattle.rule_book.specs.MatchFacts.{by_player}
use Rattle.season_book.specs.Book.{Facts}
use Rattle.season_book.specs.Commands.{has_player}
use Rattle.season_facts.proofs.KeptFacts.{IsAmong, IsRanged, OfLines, OfMatches, among_lines, is_one_of, kept_or_out, of_sheet, of_sheet_lines, ranged_lines, sheet_parts}
use Rattle.season_facts.proofs.season.Season.put_sheet.Goals as goal

pub invariant_of-self : goal.invariant_of-self
invariant_of-self c =
    let matches = c.self.inside.matches in
    let fixture = c.the_fixture-fixture.result in
    let locked = c.is_in_locked-locked.result in
    let lines = c.args.lines.now in
    let laws = c.facts_are_maps.ensures in
    let there = subst (λ (f : Facts). list_all (λ row. has_player f row.0) lines ≡ true) (sym c.self.view_is) c.requires.players in
    let kept : (Q : ℕ → Option Line → Type 0) → OfMatches Q matches → (sheet_refusal fixture locked lines ≡ None → OfLines Q lines) → OfMatches Q c.put_sheet.new.self
    = λ Q old new. kept_or_out (OfMatches Q) (sheet_refusal fixture locked lines) matches c.put_sheet.new.self (put_sheet matches fixture lines c.args.finished)
    old
    (λ none. of_sheet Q laws.sheets matches fixture (record { lines = by_player lines; finished = c.args.finished }) old
    (of_sheet_lines Q laws.sheet lines (sheet_parts fixture locked lines none).0 (new none)))
    c.put_sheet.result c.put_sheet.ensures.judged c.put_sheet.ensures.done c.put_sheet.ensures.kept in
    record {
      player_ids = c.self.invariant.player_ids;
      fixture_ids = c.self.invariant.fixture_ids;
      lines_in_range = kept IsRanged c.self.invariant.lines_in_range (λ none. ranged_lines lines (sheet_parts fixture locked lines none).1);
      lines_there = kept (IsAmong (is_one_of c.self.inside.players)) c.self.invariant.lines_there (λ none. among_lines (is_one_of c.self.inside.players) lines there);
    }
