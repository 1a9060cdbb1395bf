use Rattle.std.proofs.Common.{◌≡◌, List, drop, length, zip}
use Rattle.rule_book.specs.declared.line.Line.{Line}
use Rattle.rule_book.specs.ById.{at_id}
use Rattle.fixture_windows.proofs.element_summary.place_of.Given as goal

-- nobody up to here is the player
abbrev pub invariant-loop-place : goal.invariant-loop-place
invariant-loop-place l =
    (lines : List Line) → length lines ≡ length l.players → at_id (zip (drop l.place l.players) (drop l.place lines)) l.player ≡ at_id (zip l.players lines) l.player
