-- Totals of lines as a table holds them, by player.
use Rattle.std.specs.Prelude.{◌≡◌, ◌≤◌, ◌+◌, ◌*◌, ℕ, ℤ, pos, ◌+ℤ◌, List, Option, Some, None, count_by, length, nat_eq, nat_le, if◌then◌else◌}
use Rattle.std.specs.HashMap.{HashMap, get}
use Rattle.std.specs.declared.hash.FoldHasher.{FoldHasher}
use Rattle.std.specs.declared.hash.BuildHasherDefault.{BuildHasherDefault}
use Rattle.rule_book.specs.declared.line.Line.{Line}
use Rattle.rule_book.specs.FigureRange.{IsWithin}
use Rattle.season_book.specs.Book.{EntryFacts, Facts}
use Rattle.season_book.specs.EntryViews.{team_by}
use Rattle.bootstrap_window.specs.declared.holders.Holders.{Holders}
use Rattle.bootstrap_window.specs.declared.totals.Totals.{Totals}
use Rattle.season_book.specs.Elements.{LineTotals, is_picked, totals_over}
use Rattle.season_book.specs.LineSums.{assists_of, clean_sheets_of, conceded_of, goals_of, minutes_of, own_goals_of, penalties_missed_of, penalties_saved_of, red_cards_of, saves_of, yellow_cards_of}

-- what totals tell
abbrev pub told : Totals → LineTotals
told t = record {
  lines = t.lines;
  played = t.played;
  assists = t.assists;
  bonus = t.bonus;
  bps = t.bps;
  clean_sheets = t.clean_sheets;
  conceded = t.conceded;
  goals = t.goals;
  minutes = t.minutes;
  own_goals = t.own_goals;
  penalties_missed = t.penalties_missed;
  penalties_saved = t.penalties_saved;
  points = t.points;
  red_cards = t.red_cards;
  saves = t.saves;
  yellow_cards = t.yellow_cards;
}

-- totals of one line more, of these points, this number in the bonus points system and this bonus
abbrev pub with_line : LineTotals → Line → ℤ → ℤ → ℕ → LineTotals
with_line t line points bps bonus = record {
  lines = t.lines + 1;
  played = t.played + (if nat_le 1 (minutes_of line) then 1 else 0);
  assists = t.assists + assists_of line;
  bonus = t.bonus + bonus;
  bps = t.bps +ℤ bps;
  clean_sheets = t.clean_sheets + clean_sheets_of line;
  conceded = t.conceded + conceded_of line;
  goals = t.goals + goals_of line;
  minutes = t.minutes + minutes_of line;
  own_goals = t.own_goals + own_goals_of line;
  penalties_missed = t.penalties_missed + penalties_missed_of line;
  penalties_saved = t.penalties_saved + penalties_saved_of line;
  points = t.points +ℤ points;
  red_cards = t.red_cards + red_cards_of line;
  saves = t.saves + saves_of line;
  yellow_cards = t.yellow_cards + yellow_cards_of line;
}

-- totals of so many lines, none of which has too much to be added up
pub record AreSmall (t : Totals) : Type 0 where
  pub played : t.played ≤ t.lines
  pub assists : t.assists ≤ 65535 * t.lines
  pub bonus : t.bonus ≤ 255 * t.lines
  pub bps : IsWithin (10000 * t.lines) t.bps
  pub clean_sheets : t.clean_sheets ≤ t.lines
  pub conceded : t.conceded ≤ 65535 * t.lines
  pub goals : t.goals ≤ 65535 * t.lines
  pub minutes : t.minutes ≤ 65535 * t.lines
  pub own_goals : t.own_goals ≤ 65535 * t.lines
  pub penalties_missed : t.penalties_missed ≤ 65535 * t.lines
  pub penalties_saved : t.penalties_saved ≤ 65535 * t.lines
  pub points : IsWithin (10255 * t.lines) t.points
  pub red_cards : t.red_cards ≤ 65535 * t.lines
  pub saves : t.saves ≤ 65535 * t.lines
  pub yellow_cards : t.yellow_cards ≤ 65535 * t.lines

-- totals of no line
abbrev pub no_totals : Totals
no_totals = record {
  lines = 0;
  played = 0;
  assists = 0;
  bonus = 0;
  bps = pos 0;
  clean_sheets = 0;
  conceded = 0;
  goals = 0;
  minutes = 0;
  own_goals = 0;
  penalties_missed = 0;
  penalties_saved = 0;
  points = pos 0;
  red_cards = 0;
  saves = 0;
  yellow_cards = 0;
}

-- a table of totals by player, and a table of numbers
abbrev pub Table : Type 0
Table = HashMap ℕ Totals (BuildHasherDefault FoldHasher)

abbrev pub Counts : Type 0
Counts = HashMap ℕ ℕ (BuildHasherDefault FoldHasher)

-- what stands at a player; where nothing does, he has no line
abbrev pub or_none : Option Totals → Totals
or_none None = no_totals
or_none (Some t) = t

abbrev pub totals_in : Table → ℕ → Totals
totals_in table p = or_none (get nat_eq table p)

-- how many stand at a player; where nothing does, none
abbrev pub or_zero : Option ℕ → ℕ
or_zero None = 0
or_zero (Some n) = n

abbrev pub count_in : Counts → ℕ → ℕ
count_in counts p = or_zero (get nat_eq counts p)

-- a table has of each player what his lines sum to
abbrev pub Sums : Facts → Table → (ℕ → List (ℕ × Line)) → Type 0
Sums facts table lines = (p : ℕ) → told (totals_in table p) ≡ totals_over facts p (lines p)

-- no totals of a table have too much
abbrev pub AllSmall : Table → Type 0
AllSmall table = (p : ℕ) → AreSmall (totals_in table p)

-- by how many of these entries each player is held in a gameweek, and how many they are
pub record AreHeld (facts : Facts) (g : ℕ) (rows : List (ℕ × EntryFacts)) (holders : Holders) : Type 0 where
  pub counts : (p : ℕ) → count_in holders.counts p ≡ count_by (λ row. is_picked (team_by facts row.1.history g).picks p) rows
  pub entries : holders.entries ≡ length rows
