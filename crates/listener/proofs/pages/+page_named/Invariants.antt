use Rattle.std.proofs.Common.{length}
use Rattle.listener.proofs.pages.+page_named.Given as goal

-- there are fewer pages behind the first
abbrev pub decreases-page_named : goal.decreases-page_named
decreases-page_named l = length l.pages.now
