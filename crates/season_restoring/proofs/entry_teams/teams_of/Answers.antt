use Rattle.std.proofs.Common.{◌≡◌, ◌++◌, ℕ, List, arith, subst}
use Rattle.fpl_base.specs.Keeping.{map_of}
use Rattle.rule_book.specs.PlayerFigures.{position_in}
use Rattle.rule_book.specs.declared.team.Team.{Team}
use Rattle.season_restoring.specs.Restoring.{beside, placed}
use Rattle.season_restoring.proofs.Through.{at_end, on_from}
use Rattle.season_restoring.proofs.entry_teams.teams_of.Goals as goal

pub loop-number-preserved : goal.loop-number-preserved
loop-number-preserved c =
    let own : ℕ → List (ℕ × Team) = λ g. beside g (placed (position_in c.args.players.now) (map_of c.args.stored.now) c.args.entry g) in
    on_from own c.loop-number.number c.loop-number.teams.items c.add_team.new.teams.items (omega arith)
    (subst (λ g. c.add_team.new.teams.items ≡ c.loop-number.teams.items ++ own g) c.gameweek.ensures c.in_ok-add_team.ensures)
    c.loop-number.invariant

pub returns : goal.returns
returns c =
    at_end (λ g. beside g (placed (position_in c.args.players.now) (map_of c.args.stored.now) c.args.entry g)) c.loop-number.number c.loop-number.teams.items
    (omega arith) c.loop-number.invariant
