use Rattle.std.proofs.Common.{◌≡◌, [], replicate}
use Rattle.season_calendar.proofs.gameweek_lists.GameweekLists.new.Given as goal

abbrev pub invariant-loop : goal.invariant-loop
invariant-loop l = l.lists.items ≡ replicate l.counter []
