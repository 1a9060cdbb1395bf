use Rattle.std.proofs.Common.{◌≡◌, List, [], rules, sym, subst, ap, ◌∙◌}
use Rattle.season_ledger.specs.declared.row.Row.{Row}
use Rattle.season_ledger.specs.Rows.{cost_by}
use Rattle.season_ledger.specs.Stands.{StandsFor}
use Rattle.rule_book.specs.HistoryTransfers.{cost_at}
use Rattle.manager_book.specs.Managers.{Managers, season_of}
use Rattle.manager_book.proofs.Absent.{none_cost}
use Rattle.manager_book.proofs.book.ManagerBook.cost_in.Goals as goal

pub returns-in-Some-clause-rows : goal.returns-in-Some-clause-rows
returns-in-Some-clause-rows c = let e : c.in-Some.season.now ≡ season_of c.args.self.now c.args.e = search rules in let p : c.self.inside.profile ≡ c.args.self.now.profile = ap (λ (m : Managers). m.profile) c.self.view_is in c.cost.ensures.rows ∙ ap (λ q. cost_by q c.in-Some.season.now c.args.g) p ∙ ap (λ (rows : List Row). cost_by c.args.self.now.profile rows c.args.g) e

pub returns-in-Some-clause-history : goal.returns-in-Some-clause-history
returns-in-Some-clause-history c position h st = let e : c.in-Some.season.now ≡ season_of c.args.self.now c.args.e = search rules in let p : c.self.inside.profile ≡ c.args.self.now.profile = ap (λ (m : Managers). m.profile) c.self.view_is in subst (λ q. c.cost.result ≡ cost_at q h c.args.g) p (c.cost.ensures.history position h (subst (λ (rows : List Row). StandsFor position rows h) (sym e) st))

pub returns-in-None-clause-rows : goal.returns-in-None-clause-rows
returns-in-None-clause-rows c = let e : season_of c.args.self.now c.args.e ≡ [] = search rules in ap (λ (rows : List Row). cost_by c.args.self.now.profile rows c.args.g) (sym e)

pub returns-in-None-clause-history : goal.returns-in-None-clause-history
returns-in-None-clause-history c position h st = let e : season_of c.args.self.now c.args.e ≡ [] = search rules in none_cost c.args.self.now.profile position (season_of c.args.self.now c.args.e) h c.args.g e st
