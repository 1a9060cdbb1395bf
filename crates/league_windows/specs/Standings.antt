-- By what members are ranked as they stood a gameweek before.
use Rattle.std.specs.Prelude.{ℕ, ◌-◌, ℤ, ◌-ℤ◌, Bool, List}
use Rattle.std.specs.Ordering.{int_cmp, is_lt, nat_cmp, ordering_then}
use Rattle.std.specs.Option.{option_map_or}
use Rattle.rule_book.specs.declared.tables.HeadScore.{HeadScore}
use Rattle.rule_book.specs.HeadToHead.{match_points}
use Rattle.rule_book.specs.LeagueRows.{match_in, place_of}
use Rattle.rule_book.specs.Leagues.{LeagueFacts}
use Rattle.season_book.specs.Book.{EntryFacts, Facts}
use Rattle.season_book.specs.LeagueViews.{net_in}
use Rattle.league_windows.specs.declared.classic.Standing.{Standing}
use Rattle.league_windows.specs.declared.head.HeadStanding.{HeadStanding}
use Rattle.season_book.specs.LeagueTables.{transfers_through}

-- a total and transfers, as they are ranked
abbrev pub standing_of : ℕ × ℤ × ℕ → Standing
standing_of row = record { total = record { 0 = row.1 }; transfers = row.2 }

-- one comes before another: by the greater total, then by fewer transfers
abbrev pub comes_before : Standing → Standing → Bool
comes_before a b = is_lt (ordering_then (int_cmp b.total.0 a.total.0) (nat_cmp a.transfers b.transfers))

-- the standing of before, of a row of now: less what the entry has of the last locked gameweek
abbrev pub standing_before : Facts → List EntryFacts → ℕ × ℤ × ℕ → Standing
standing_before facts entries row = record {
  total = record { 0 = row.1 -ℤ net_in facts entries row.0 facts.calendar.locked };
  transfers = transfers_through facts entries (facts.calendar.locked - 1) row.0;
}

-- The same of a head-to-head league.

-- match points and points scored, as they are ranked
abbrev pub head_standing_of : ℕ × HeadScore → HeadStanding
head_standing_of row = record { points = record { 0 = row.1.points }; scored = record { 0 = row.1.scored } }

-- one comes before another: by the more match points, then by the more points scored
abbrev pub comes_before_in_head : HeadStanding → HeadStanding → Bool
comes_before_in_head a b = is_lt (ordering_then (nat_cmp b.points.0 a.points.0) (int_cmp b.scored.0 a.scored.0))

-- the standing without one match
abbrev pub without_match : HeadScore → ℤ × ℤ → HeadStanding
without_match score m = record { points = record { 0 = score.points - match_points m.0 m.1 }; scored = record { 0 = score.scored -ℤ m.0 } }

-- the standing of before, of a row of now: without the match of the last locked gameweek, if the member has one
abbrev pub head_standing_before : Facts → List EntryFacts → LeagueFacts → ℕ × HeadScore → HeadStanding
head_standing_before facts entries league row =
    option_map_or (λ place. without_match row.1 (match_in (net_in facts entries) league row.0 place facts.calendar.locked)) (place_of league.order row.0) (head_standing_of row)
