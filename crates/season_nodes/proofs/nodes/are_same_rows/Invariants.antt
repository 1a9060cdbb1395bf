use Rattle.std.proofs.Common.{◌≡◌, take}
use Rattle.season_nodes.proofs.nodes.are_same_rows.Given as goal

abbrev pub invariant-rows : goal.invariant-rows
invariant-rows l = take l.place l.others ≡ take l.place l.rows
