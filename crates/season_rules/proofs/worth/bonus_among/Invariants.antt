use Rattle.std.proofs.Common.{◌≡◌, drop}
use Rattle.rule_book.specs.ById.{at_id}
use Rattle.season_rules.proofs.worth.bonus_among.Given as goal

abbrev pub invariant-loop-row : goal.invariant-loop-row
invariant-loop-row l = at_id l.rows l.player ≡ at_id (drop l.row-index l.rows) l.player
