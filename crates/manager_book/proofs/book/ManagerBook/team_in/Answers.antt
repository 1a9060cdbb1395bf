use Rattle.std.proofs.Common.{◌≡◌, List, [], rules, sym, subst, ap, ◌∙◌}
use Rattle.season_ledger.specs.declared.row.Row.{Row}
use Rattle.season_ledger.specs.Stands.{StandsFor}
use Rattle.manager_book.specs.Calls.{team_at}
use Rattle.manager_book.specs.Managers.{season_of}
use Rattle.manager_book.proofs.Absent.{none_team}
use Rattle.manager_book.proofs.book.ManagerBook.team_in.Goals as goal

pub returns-in-Some-clause-rows : goal.returns-in-Some-clause-rows
returns-in-Some-clause-rows c = let e : c.in-Some.season.now ≡ season_of c.args.self.now c.args.e = search rules in c.team.ensures.rows ∙ ap (λ (rows : List Row). team_at rows c.args.g) e

pub returns-in-Some-clause-history : goal.returns-in-Some-clause-history
returns-in-Some-clause-history c position h st = let e : c.in-Some.season.now ≡ season_of c.args.self.now c.args.e = search rules in c.team.ensures.history position h (subst (λ (rows : List Row). StandsFor position rows h) (sym e) st)

pub returns-in-None-clause-rows : goal.returns-in-None-clause-rows
returns-in-None-clause-rows c = let e : season_of c.args.self.now c.args.e ≡ [] = search rules in ap (λ (rows : List Row). team_at rows c.args.g) (sym e)

pub returns-in-None-clause-history : goal.returns-in-None-clause-history
returns-in-None-clause-history c position h st = let e : season_of c.args.self.now c.args.e ≡ [] = search rules in none_team position (season_of c.args.self.now c.args.e) h c.args.g e st

pub returns-in-Some-clause-laws : goal.returns-in-Some-clause-laws
returns-in-Some-clause-laws c position h st = let e : c.in-Some.season.now ≡ season_of c.args.self.now c.args.e = search rules in c.team.ensures.laws position h (subst (λ (rows : List Row). StandsFor position rows h) (sym e) st)
