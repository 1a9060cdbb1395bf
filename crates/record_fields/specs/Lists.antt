-- What stands in the lists of records and commands, as bytes.
use Rattle.std.specs.Prelude.{ℕ, List, ◌++◌}
use Rattle.std.specs.Int.{w16, w32}
use Rattle.rule_book.specs.declared.line.Line.{Line}
use Rattle.rule_book.specs.declared.transfers.Swap.{Swap}
use Rattle.record_fields.specs.Fields.{whole, number, long_text, listed}

-- a player of a team with the price at which he was bought
abbrev pub pick_bytes : ℕ × ℕ → List ℕ
pick_bytes pick = number w32 pick.0 ++ number w16 pick.1

-- a club with its name, a line, a player with his line, a transfer
abbrev pub club_bytes : ℕ × List ℕ → List ℕ
club_bytes club = whole club.0 ++ long_text club.1

abbrev pub line_bytes : Line → List ℕ
line_bytes line = listed whole line.figures

abbrev pub row_bytes : ℕ × Line → List ℕ
row_bytes row = whole row.0 ++ line_bytes row.1

abbrev pub swap_bytes : Swap → List ℕ
swap_bytes swap = whole swap.out ++ whole swap.into
