use Rattle.std.proofs.Common.{◌≡◌, [], rules}
use Rattle.rule_book.specs.EntryCalls.{slot_of}
use Rattle.manager_book.specs.Calls.{IsFirstOf}
use Rattle.manager_book.proofs.Worked.{squad_worked}
use Rattle.manager_book.proofs.register.judge_squad.Goals as goal

pub returns-clause-worked : goal.returns-clause-worked
returns-clause-worked c =
    let f : IsFirstOf c.args.players.now c.args.squad.now (slot_of c.args.squad.now c.args.captain) (slot_of c.args.squad.now c.args.vice) c.in_ok-team.team = search rules in
    let new : c.args.season.now ≡ [] = search rules in
    squad_worked c.args.g c.args.players.now c.args.squad.now (slot_of c.args.squad.now c.args.captain) (slot_of c.args.squad.now c.args.vice) c.args.season.now c.in_ok-team.team c.len-count.ensures.lawful new f
