use Rattle.std.proofs.Common.{sym, ap, ◌∙◌}
use Rattle.rule_book.specs.MatchFacts.{line_in}
use Rattle.season_facts.proofs.Found.{all_in_range}
use Rattle.season_facts.proofs.season.Season.rows.Goals as goal

pub returns-clause-in_range : goal.returns-clause-in_range
returns-clause-in_range g c =
    all_in_range c.rows.result.0.now c.rows.result.1.now c.rows.ensures.ascending c.rows.ensures.paired
    (λ p line at. c.self.invariant.lines_in_range c.args.fixture p line (ap (λ rows. line_in rows p) (sym c.rows.ensures.rows) ∙ at))
