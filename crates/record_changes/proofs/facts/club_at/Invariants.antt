use Rattle.std.proofs.Common.{◌≡◌, drop}
use Rattle.rule_book.specs.ById.{at_id}
use Rattle.record_changes.proofs.facts.club_at.Given as goal

abbrev pub invariant-loop-row : goal.invariant-loop-row
invariant-loop-row l = at_id (drop l.row-index l.clubs) l.club ≡ at_id l.clubs l.club
