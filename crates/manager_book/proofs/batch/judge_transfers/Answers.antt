use Rattle.std.proofs.Common.{◌≡◌, Some, Ok, refl, sym, subst, ◌∙◌, rules}
use Rattle.rule_book.specs.HistoryTeam.{TeamTold}
use Rattle.season_ledger.specs.Rows.{FitsIn, team_in}
use Rattle.manager_book.specs.Calls.{IsBatchOf}
use Rattle.manager_book.proofs.Batched.{batch_of}
use Rattle.manager_book.proofs.Worked.{batch_worked}
use Rattle.manager_book.proofs.batch.judge_transfers.Goals as goal

batch : (c : goal.In_ok-team) → IsBatchOf c.args.g c.args.players.now c.args.swaps.now c.args.season.now c.in_ok-team.sales c.in_ok-team.team
batch c =
    let e : c.standing.result ≡ Some c.in-Some.standing = search rules in
    let done = c.in_ok-team.ensures in
    batch_of c.args.g c.args.players.now c.args.swaps.now c.args.season.now c.in-Some.standing (Ok (c.in_ok-team.team, c.in_ok-team.sales))
    (sym c.standing.ensures.rows ∙ e)
    (subst (FitsIn c.args.g) e c.standing.ensures.fit)
    (λ position h st. subst (λ o. TeamTold position h c.args.g (team_in o)) e (c.standing.ensures.history position h st))
    (search rules)
    done.sales done.team done.one_by_one done.different done.placed done.cheap

pub returns-clause-batch : goal.returns-clause-batch
returns-clause-batch c = (refl, batch c)

pub returns-clause-worked : goal.returns-clause-worked
returns-clause-worked c =
    batch_worked c.rows_refuse_alike.ensures c.args.g c.args.players.now c.args.swaps.now c.args.season.now c.in_ok-team.sales c.in_ok-team.team c.requires.later c.requires.some (batch c)
