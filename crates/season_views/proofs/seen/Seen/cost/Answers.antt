use Rattle.std.proofs.Common.{◌≡◌, ℕ, List, subst}
use Rattle.fpl_base.specs.declared.kinds.Position.{Position}
use Rattle.rule_book.specs.History.{Event}
use Rattle.rule_book.specs.HistoryTransfers.{cost_at}
use Rattle.season_ledger.specs.Stands.{StandsFor}
use Rattle.manager_book.specs.Managers.{season_of}
use Rattle.season_views.specs.Seen.{SeenSeason}
use Rattle.season_views.proofs.seen.Seen.cost.Goals as goal

pub returns-clause-history : goal.returns-clause-history
returns-clause-history g c =
    subst (λ (s : SeenSeason). (position : ℕ → Position) (h : List Event) → StandsFor position (season_of s.managers c.args.entry) h → c.cost.result ≡ cost_at s.managers.profile h c.args.gameweek) c.self.view_is c.cost.ensures.history
