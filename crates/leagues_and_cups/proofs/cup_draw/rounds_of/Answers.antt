use Rattle.std.proofs.Common.{◌≡◌, ◌^◌, arith}
use Rattle.leagues_and_cups.proofs.RoundCases.{by_rounds}
use Rattle.leagues_and_cups.proofs.cup_draw.rounds_of.Goals as goal

pub returns-else-slots-eq1024-clause-none : goal.returns-else-slots-eq1024-clause-none
returns-else-slots-eq1024-clause-none c r lo hi =
    by_rounds (λ r. c.args.slots ≡ 2 ^ r → ⊥) (λ e. omega arith) (λ e. omega arith) (λ e. omega arith) (λ e. omega arith) (λ e. omega arith) (λ e. omega arith) (λ e. omega arith) (λ e. omega arith) (λ e. omega arith) (λ e. omega arith) r lo hi
