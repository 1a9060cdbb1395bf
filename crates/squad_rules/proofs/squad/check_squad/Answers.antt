use Rattle.std.proofs.Common.{◌≡◌, Some, None, refl, rules}
use Rattle.fpl_base.specs.declared.rule.Rule.TheVariants as rule
use Rattle.rule_book.specs.Squads.{squad_refusal}
use Rattle.squad_rules.proofs.Legal.{legal_when, refused}
use Rattle.squad_rules.proofs.squad.check_squad.Goals as goal

pub returns-in-Some-clause-legal : goal.returns-in-Some-clause-legal
returns-in-Some-clause-legal c =
    let e : squad_refusal c.args.picks.now c.args.clubs.now ≡ Some (rule.Twice c.in-Some.player) = search rules in
    refused _ _ _ e

pub returns-in-Some-least_crowded-clause-legal : goal.returns-in-Some-least_crowded-clause-legal
returns-in-Some-least_crowded-clause-legal c =
    let e : squad_refusal c.args.picks.now c.args.clubs.now ≡ Some (rule.ClubLimit c.in-Some-least_crowded.club) = search rules in
    refused _ _ _ e

pub returns-clause-legal : goal.returns-clause-legal
returns-clause-legal c =
    let e : squad_refusal c.args.picks.now c.args.clubs.now ≡ None = search rules in
    (λ t. legal_when _ _ e, λ s. refl)
