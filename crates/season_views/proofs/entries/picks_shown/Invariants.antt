use Rattle.std.proofs.Common.{◌≡◌, length, map, take}
use Rattle.season_book.specs.EntryViews.{pick_shown}
use Rattle.season_views.proofs.entries.picks_shown.Given as goal

abbrev pub invariant-loop-place : goal.invariant-loop-place
invariant-loop-place g l = (length l.shown ≡ 15) × (take l.place l.shown ≡ map (pick_shown l.seen.facts.players) (take l.place l.team.picks))
