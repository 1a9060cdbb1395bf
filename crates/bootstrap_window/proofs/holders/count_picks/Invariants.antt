use Rattle.std.proofs.Common.{◌≡◌, ◌+◌, ℕ, cond, take}
use Rattle.season_book.specs.Elements.{is_picked}
use Rattle.bootstrap_window.specs.Tables.{count_in}
use Rattle.bootstrap_window.proofs.holders.count_picks.Given as goal

-- those of the players so far are one greater
abbrev pub invariant-loop-place : goal.invariant-loop-place
invariant-loop-place l = (p : ℕ) → count_in l.counts p ≡ count_in l.fn.counts p + cond (is_picked (take l.place l.picks) p) 1 0
