use Rattle.std.proofs.Common.{◌≡◌, ℕ, Some, Ok, refl, sym, subst, ◌∙◌, rules}
use Rattle.rule_book.specs.EntryCalls.{slot_of}
use Rattle.rule_book.specs.HistoryTeam.{TeamTold}
use Rattle.season_ledger.specs.Rows.{FitsIn, team_in}
use Rattle.manager_book.specs.Calls.{IsLined, IsLineupOf}
use Rattle.manager_book.proofs.Lined.{lineup_of}
use Rattle.manager_book.proofs.Worked.{lineup_worked}
use Rattle.manager_book.proofs.lineup.judge_lineup.Goals as goal

lineup : (c : goal.In_ok-team) → IsLineupOf c.args.g c.args.order.now (slot_of c.args.order.now c.args.captain) (slot_of c.args.order.now c.args.vice) c.args.season.now c.in_ok-team.team
lineup c =
    let e : c.standing.result ≡ Some c.in-Some.standing = search rules in
    let l : IsLined c.args.order.now (slot_of c.args.order.now c.args.captain) (slot_of c.args.order.now c.args.vice) c.in-Some.standing.team c.in_ok-team.team =
    subst (λ (v : ℕ). IsLined c.args.order.now (slot_of c.args.order.now c.args.captain) v c.in-Some.standing.team c.in_ok-team.team) c.slot_of-vice.ensures
    (subst (λ (p : ℕ). IsLined c.args.order.now p c.slot_of-vice.result c.in-Some.standing.team c.in_ok-team.team) c.slot_of-captain.ensures c.in_ok-team.ensures.lined) in
    lineup_of c.args.g c.args.order.now (slot_of c.args.order.now c.args.captain) (slot_of c.args.order.now c.args.vice) c.args.season.now c.in-Some.standing (Ok c.in_ok-team.team)
    (sym c.standing.ensures.rows ∙ e)
    (subst (FitsIn c.args.g) e c.standing.ensures.fit)
    (λ position h st. subst (λ o. TeamTold position h c.args.g (team_in o)) e (c.standing.ensures.history position h st))
    (search rules) (search rules) l

pub returns-clause-lineup : goal.returns-clause-lineup
returns-clause-lineup c = (refl, lineup c)

pub returns-clause-worked : goal.returns-clause-worked
returns-clause-worked c players =
    lineup_worked c.args.g players c.args.order.now (slot_of c.args.order.now c.args.captain) (slot_of c.args.order.now c.args.vice) c.args.season.now c.in_ok-team.team c.requires.later (lineup c)
