use Rattle.std.proofs.Common.{◌≡◌, filter, map, nat_le, take}
use Rattle.rule_book.specs.Bonus.{bonus_of}
use Rattle.season_rules.proofs.worth.with_bonus.Given as goal

abbrev pub invariant-loop-row : goal.invariant-loop-row
invariant-loop-row l = l.rows ≡ filter (λ row. nat_le 1 row.1) (map (λ row. (row.0, bonus_of l.table row.1)) (take l.row-index l.table))
