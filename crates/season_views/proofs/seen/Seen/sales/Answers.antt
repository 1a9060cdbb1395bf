use Rattle.std.proofs.Common.{◌≡◌, ◌+◌, ◌∙◌, ◌-◌, List, [], None, ℕ, ap, arith, length, subst, sym}
use Rattle.std.specs.Prelude.{option_copied, slice_get}
use Rattle.rule_book.specs.declared.transfers.Sale.{Sale}
use Rattle.manager_book.specs.Managers.{sales_of}
use Rattle.manager_book.specs.declared.manager.Manager.{Manager}
use Rattle.manager_book.proofs.Absent.{get_none}
use Rattle.season_views.specs.Seen.{SeenSeason}
use Rattle.season_views.proofs.seen.Seen.sales.Goals as goal

pub returns-in-None-clause-sales : goal.returns-in-None-clause-sales
returns-in-None-clause-sales g c =
    let managers = c.self.inside.managers.now in
    let at : slice_get managers.managers (c.args.entry - 1) ≡ None = sym c.manager.ensures ∙ ap option_copied c.in-None.is in
    let none : [] ≡ sales_of managers c.args.entry = sym (ap (λ (m : Manager). m.sales) (get_none managers.managers (c.args.entry - 1) at)) in
    subst (λ (s : SeenSeason). [] ≡ sales_of s.managers c.args.entry) c.self.view_is none

pub returns-in-None-clause-counted : goal.returns-in-None-clause-counted
returns-in-None-clause-counted g c =
    let none = ap (λ (sales : List (ℕ × Sale)). length sales) (returns-in-None-clause-sales g c) in
    omega (arith, none)
