use Rattle.std.proofs.Common.{◌≡◌, List, [], rules, sym, subst, ap, ◌∙◌}
use Rattle.season_ledger.specs.declared.row.Row.{Row}
use Rattle.season_ledger.specs.Rows.{free_in}
use Rattle.season_ledger.specs.Stands.{StandsFor}
use Rattle.rule_book.specs.HistoryTransfers.{FreeTold}
use Rattle.manager_book.specs.Managers.{Managers, season_of}
use Rattle.manager_book.proofs.Absent.{none_free}
use Rattle.manager_book.proofs.book.ManagerBook.free_in.Goals as goal

pub returns-in-Some-clause-rows : goal.returns-in-Some-clause-rows
returns-in-Some-clause-rows c = let e : c.in-Some.season.now ≡ season_of c.args.self.now c.args.e = search rules in let p : c.self.inside.profile ≡ c.args.self.now.profile = ap (λ (m : Managers). m.profile) c.self.view_is in c.free.ensures.rows ∙ ap (λ q. free_in q c.in-Some.season.now c.args.g) p ∙ ap (λ (rows : List Row). free_in c.args.self.now.profile rows c.args.g) e

pub returns-in-Some-clause-history : goal.returns-in-Some-clause-history
returns-in-Some-clause-history c position h st = let e : c.in-Some.season.now ≡ season_of c.args.self.now c.args.e = search rules in let p : c.self.inside.profile ≡ c.args.self.now.profile = ap (λ (m : Managers). m.profile) c.self.view_is in subst (λ q. FreeTold q h c.args.g c.free.result) p (c.free.ensures.history position h (subst (λ (rows : List Row). StandsFor position rows h) (sym e) st))

pub returns-in-None-clause-rows : goal.returns-in-None-clause-rows
returns-in-None-clause-rows c = let e : season_of c.args.self.now c.args.e ≡ [] = search rules in ap (λ (rows : List Row). free_in c.args.self.now.profile rows c.args.g) (sym e)

pub returns-in-None-clause-history : goal.returns-in-None-clause-history
returns-in-None-clause-history c position h st = let e : season_of c.args.self.now c.args.e ≡ [] = search rules in none_free c.args.self.now.profile position (season_of c.args.self.now c.args.e) h c.args.g e st
