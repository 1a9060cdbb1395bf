use Rattle.std.proofs.Common.{◌≡◌, ◌<ℤ◌, ◌≤ℤ◌, ◌∙◌, ℤ, negsuc, arith, rules, to_z, of_z, w32, w64, FitsSigned}
use Rattle.std.proofs.lemmas.Int.{ints, to_z-of_z}
use Rattle.scoring.proofs.LevelLemmas.{new_first, new_second}
use Rattle.scoring.proofs.levels.BonusLevels.add.Goals as goal

-- What is stored is seen through its bits and back.
stored : (n : ℤ) → FitsSigned w64 n → to_z w64 (of_z w64 n) ≡ n
stored n fits = to_z-of_z w64 n fits

pub returns-then-number-self-3 : goal.returns-then-number-self-3
returns-then-number-self-3 c = λ own.
    let number = stored c.from-number.result (search rules) in
    let first = stored c.self.inside.first (search rules) in
    let second = stored c.self.inside.second (search rules) in
    let is : c.from-number.result ≡ c.args.number = c.from-number.ensures ∙ to_z-of_z w32 c.args.number c.ranges.number in
    let some : negsuc 2147483648 <ℤ c.from-number.result = grind (arith, ints, is, c.ranges.number.sfits) in
    let below : c.from-number.result ≤ℤ c.self.inside.first = grind (arith, ints, number, first, c.if-number-self-3.true) in
    let over : c.self.inside.second ≤ℤ c.from-number.result = grind (arith, ints, number, second, c.if-number-self-2.false) in
    rw (number, second, ← c.self.view_is, ← is)
    (new_second c.self.inside.first c.self.inside.second c.self.inside.third c.from-number.result own some c.self.invariant.0 c.self.invariant.1 below over)

pub returns-else-number-self-3 : goal.returns-else-number-self-3
returns-else-number-self-3 c = λ own.
    let number = stored c.from-number.result (search rules) in
    let first = stored c.self.inside.first (search rules) in
    let second = stored c.self.inside.second (search rules) in
    let is : c.from-number.result ≡ c.args.number = c.from-number.ensures ∙ to_z-of_z w32 c.args.number c.ranges.number in
    let some : negsuc 2147483648 <ℤ c.from-number.result = grind (arith, ints, is, c.ranges.number.sfits) in
    let over : c.self.inside.first ≤ℤ c.from-number.result = grind (arith, ints, number, first, c.if-number-self-3.false) in
    rw (number, first, second, ← c.self.view_is, ← is)
    (new_first c.self.inside.first c.self.inside.second c.self.inside.third c.from-number.result own some c.self.invariant.0 c.self.invariant.1 over)
