use Rattle.season_nodes.specs.BookFacts.{facts_of}
use Rattle.season_nodes.proofs.DependentFacts.{affected_are}
use Rattle.season_rules.proofs.rules.SeasonRulesRules.affected.Goals as goal

pub returns-in_ok-bonus_affected-in-Bonus : goal.returns-in_ok-bonus_affected-in-Bonus
returns-in_ok-bonus_affected-in-Bonus c live =
    affected_are (facts_of c.args.self.now.books) c.requires.0 c.args.n c.in-Bonus.fixture c.args.old.now c.args.new.now
    c.in_ok-bonus_affected-in-Bonus.field-0.items c.in-Bonus.is c.in_ok-bonus_affected-in-Bonus.ensures
