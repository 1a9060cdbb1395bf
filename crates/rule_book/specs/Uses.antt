-- Where a player has been used: in a squad, by a transfer, or in a match.
use Rattle.std.specs.Prelude.{ℕ, Bool, false, ◌||◌, ◌==◌, List, is_some, map}
use Rattle.std.specs.List.{list_any}
use Rattle.rule_book.specs.History.{Deed, Event}
use Rattle.rule_book.specs.History.Deed.{First, Swap, Lineup, Play, Cancel}
use Rattle.rule_book.specs.MatchFacts.{MatchFacts, line_of}

-- a first squad has him, or a transfer names him
abbrev pub names_player : ℕ → Deed → Bool
names_player p (First squad captain vice) = list_any (λ k. k.player == p) squad
names_player p (Swap sale) = (sale.out == p) || (sale.into == p)
names_player p (Lineup players captain vice) = false
names_player p (Play chip) = false
names_player p Cancel = false

-- an entry holds or has held him, or a transfer of its names him: who holds him had him in his first squad, or brought him in
abbrev pub has_had : List Event → ℕ → Bool
has_had h p = list_any (λ e. names_player p e.deed) h

-- he has a line
abbrev pub has_lines : MatchFacts → ℕ → Bool
has_lines facts p = list_any (λ f. is_some (line_of facts f p)) (map (λ row. row.0) facts)
