use Rattle.std.proofs.Common.{◌≡◌, map, take}
use Rattle.season_book.specs.LeagueViews.{head_ranked_shown}
use Rattle.season_views.specs.Entries.{OfEachNames}
use Rattle.season_views.proofs.head.head_named.Given as goal

abbrev pub invariant-loop-row : goal.invariant-loop-row
invariant-loop-row g l = OfEachNames l.seen.managers (λ entries. l.shown ≡ map (head_ranked_shown entries) (take l.row-index l.table))
