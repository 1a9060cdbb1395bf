use Rattle.std.proofs.Common.{◌≡◌, true, ◌∙◌, sym, ap, subst, arith}
use Rattle.season_nodes.specs.BookFacts.{facts_of}
use Rattle.season_nodes.specs.Season.{is_live, level_of}
use Rattle.season_rules.proofs.LevelFacts.{few_before}
use Rattle.season_rules.proofs.rules.SeasonRulesRules.level.Goals as goal

pub returns-in-Tie : goal.returns-in-Tie
returns-in-Tie c order live =
    let b = facts_of c.args.self.now.books in
    let one = c.in-Tie in
    let here = subst (λ q. is_live b q ≡ true) one.is live in
    let few = few_before b order.0 one.field-0 one.round one.field-2 here in
    c.tie_level.ensures (omega (arith, few)) ∙ ap level_of (sym one.is)
