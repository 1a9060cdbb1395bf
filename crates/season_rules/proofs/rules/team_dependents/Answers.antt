use Rattle.std.proofs.Common.{◌≡◌, ◌+◌, subst}
use Rattle.std.specs.Prelude.{IfSome}
use Rattle.season_nodes.specs.BookFacts.{facts_of}
use Rattle.season_nodes.specs.Dependents.{cup_dependents, table_dependents}
use Rattle.season_rules.proofs.Lists.{flat_next}
use Rattle.season_rules.proofs.rules.team_dependents.Goals as goal

pub loop-number-preserved : goal.loop-number-preserved
loop-number-preserved c =
    let b = facts_of c.args.books.now in
    let number = subst (λ o. IfSome o (λ n. n ≡ c.loop-number.number + 1)) c.unwrap-cup.ensures c.new.ensures.value in
    flat_next (cup_dependents b c.args.entry c.args.gameweek) (table_dependents b c.args.entry c.args.gameweek)
    c.loop-number.found.items c.append.new.self.items c.in_ok-more.more.items c.loop-number.number c.unwrap-cup.result number
    c.in_ok-more.ensures c.loop-number.invariant c.in_ok-append.ensures.items
