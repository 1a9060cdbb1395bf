use Rattle.std.proofs.Common.{◌≡◌, ℤ, take}
use Rattle.rule_book.specs.Bonus.{bonus_of}
use Rattle.scoring.specs.Levels.{bonus_by}
use Rattle.scoring.proofs.levels.BonusLevels.of.Given as goal

-- the levels of those so far
abbrev pub invariant-loop-row : goal.invariant-loop-row
invariant-loop-row l = (own : ℤ) → bonus_by l.levels own ≡ bonus_of (take l.row-index l.table) own
