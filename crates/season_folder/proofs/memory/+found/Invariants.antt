use Rattle.std.proofs.Common.{length}
use Rattle.season_folder.proofs.memory.+found.Given as goal

-- there are fewer files behind the first
abbrev pub decreases-found : goal.decreases-found
decreases-found l = length l.files.now
