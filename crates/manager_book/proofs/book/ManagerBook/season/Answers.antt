use Rattle.std.proofs.Common.{◌≡◌, ◌-◌, None, rules, ap}
use Rattle.std.specs.Prelude.{slice_get}
use Rattle.manager_book.specs.declared.manager.Manager.{Manager}
use Rattle.manager_book.proofs.Absent.{get_none}
use Rattle.manager_book.proofs.book.ManagerBook.season.Goals as goal

pub returns-in-None-clause-none : goal.returns-in-None-clause-none
returns-in-None-clause-none c = let n : slice_get c.args.self.now.managers (c.args.e - 1) ≡ None = search rules in λ _. ap (λ (m : Manager). m.season) (get_none c.args.self.now.managers (c.args.e - 1) n)
