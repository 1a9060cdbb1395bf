-- Totals over locked gameweeks, by what an entry has in each.
use Rattle.std.specs.Prelude.{ℕ, ℤ, pos, ◌+◌, ◌-◌, List, Option, Some, None, map, max}
use Rattle.std.specs.List.{range_with_len}
use Rattle.rule_book.specs.HeadToHead.{total_of}

-- the gameweeks from one to another
abbrev pub gameweeks : ℕ → ℕ → List ℕ
gameweeks from to = range_with_len from ((to + 1) - from)

-- the total of an entry from a gameweek on: its points after deductions in the locked gameweeks, from that one or from
-- its first, whichever is later; an entry that has not begun has none
abbrev pub total_from : (ℕ → ℤ) → ℕ → Option ℕ → ℕ → ℤ
total_from net from None locked = pos 0
total_from net from (Some first) locked = total_of (map net (gameweeks (max from first) locked))
