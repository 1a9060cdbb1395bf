use Rattle.std.proofs.Common.{◌≡◌, ◌∙◌, ◌-◌, List, [], None, Some, ap, subst, sym}
use Rattle.std.specs.Prelude.{option_copied, slice_get}
use Rattle.season_ledger.specs.Stands.{StandsFor}
use Rattle.season_ledger.specs.declared.row.Row.{Row}
use Rattle.season_ledger.proofs.Season.{rows_tell}
use Rattle.manager_book.specs.Managers.{Managers, season_of}
use Rattle.manager_book.specs.declared.manager.Manager.{Manager}
use Rattle.manager_book.proofs.Absent.{get_none, get_some}
use Rattle.season_views.specs.Seen.{SeenSeason}
use Rattle.season_views.proofs.seen.Seen.made.Goals as goal

pub returns-in-Some-clause-history : goal.returns-in-Some-clause-history
returns-in-Some-clause-history g c = λ position h stands.
    let managers = c.self.inside.managers.now in
    let at : slice_get managers.managers (c.args.entry - 1) ≡ Some c.in-Some.manager.now = sym c.manager.ensures ∙ ap option_copied c.in-Some.is in
    let rows : season_of managers c.args.entry ≡ c.in-Some.manager.now.season = ap (λ (m : Manager). m.season) (get_some managers.managers (c.args.entry - 1) c.in-Some.manager.now at) in
    let here : StandsFor position (season_of managers c.args.entry) h = subst (λ (s : SeenSeason). StandsFor position (season_of s.managers c.args.entry) h) (sym c.self.view_is) stands in
    c.made.ensures.history position h (subst (λ (r : List Row). StandsFor position r h) rows here)

pub returns-in-None-clause-history : goal.returns-in-None-clause-history
returns-in-None-clause-history g c = λ position h stands.
    let managers = c.self.inside.managers.now in
    let at : slice_get managers.managers (c.args.entry - 1) ≡ None = sym c.manager.ensures ∙ ap option_copied c.in-None.is in
    let rows : season_of managers c.args.entry ≡ [] = ap (λ (m : Manager). m.season) (get_none managers.managers (c.args.entry - 1) at) in
    let here : StandsFor position (season_of managers c.args.entry) h = subst (λ (s : SeenSeason). StandsFor position (season_of s.managers c.args.entry) h) (sym c.self.view_is) stands in
    (rows_tell position [] h (subst (λ (r : List Row). StandsFor position r h) rows here)).used c.args.gameweek
