use Rattle.std.proofs.Common.{◌≡◌, ◌∙◌, FitsSigned, arith, rules, take, w32}
use Rattle.std.proofs.lemmas.Int.{to_z-of_z}
use Rattle.rule_book.specs.HeadToHead.{total_of}
use Rattle.squad_rules.proofs.Collecting.{first_is, points_in}
use Rattle.squad_rules.proofs.formations.first_total.Goals as goal

pub returns-clause-value : goal.returns-clause-value
returns-clause-value c = λ position.
    let fits : FitsSigned w32 c.total_of.result = search rules in
    let is : c.total_of.result ≡ total_of (points_in (take c.args.count c.args.candidates.now)) = search rules in
    first_is position c.args.candidates.now c.args.count _ (omega arith) (to_z-of_z w32 c.total_of.result fits ∙ is)
