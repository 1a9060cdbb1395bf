-- Which records of a store are lawful, and which of them is the first that is not.
use Rattle.std.specs.Prelude.{ℕ, Bool, true, false, not, ◌&&◌, ◌||◌, ◌==◌, List, Option, is_none, nat_le, find, length}
use Rattle.std.specs.List.{list_all}
use Rattle.std.specs.Option.{option_map, option_map_or, option_or}
use Rattle.fpl_base.specs.Keeping.{map_of}
use Rattle.fpl_base.specs.declared.records.RecordKey.{RecordKey}
use Rattle.rule_book.specs.Figures.{line_range}
use Rattle.record_fields.specs.Ranges.{is_between}
use Rattle.season_records.specs.ItemReading.{item_of}
use Rattle.season_records.specs.declared.item.Item.{Item}
use Rattle.season_records.specs.declared.item.Item.TheVariants as item
use Rattle.season_records.specs.declared.slot.Slot.TheVariants as slot
use Rattle.stored_records.specs.SeasonRules.{club_breaks, fixture_breaks, line_breaks, misses, player_breaks, season_breaks}
use Rattle.stored_records.specs.Stored.{Rows}
use Rattle.store_validation.specs.EntryRules.{team_breaks, transfer_breaks}
use Rattle.store_validation.specs.LeagueRules.{cup_breaks, issue_breaks, last_breaks, league_breaks, member_breaks}

-- The rule that is tried first, on each record alone.

-- the values of an item are in their ranges: 1 to 38 gameweeks, no more of them in the first half; two different clubs in a
-- fixture; figures up to their greatest values; at most 64 places of a draw; at most 1,024 slots of a cup, and coins that
-- are 0 or 1; numbers of commands up to 2^63 - 1
abbrev pub is_in_range : Item → Bool
is_in_range (item.Season profile split locked deadlines) = is_between 1 38 (length deadlines) && nat_le split (length deadlines)
is_in_range (item.Fixture fixture home away gameweek kickoff finished) = not (home == away)
is_in_range (item.Line fixture player line) = is_none (line_range line)
is_in_range (item.League league kind start creator order code name) = nat_le (length order) 64
is_in_range (item.Cup cup start slots coins) = nat_le (length slots) 1024 && list_all (λ coin. nat_le coin 1) coins
is_in_range (item.Last caller number status made command) = nat_le number 9223372036854775807
is_in_range other = true

-- a record is spelled as an item that is in range
abbrev pub is_spelled : RecordKey × List ℕ → Bool
is_spelled row = option_map_or is_in_range (item_of row.0 row.1) false

-- The other rules.

-- what an item breaks of the rules on what it tells of
abbrev pub rules_broken : Rows → Item → Bool
rules_broken rows (item.Season profile split locked deadlines) = season_breaks split locked deadlines
rules_broken rows (item.Club club name) = club_breaks rows club
rules_broken rows (item.Player player position club price gone name) = player_breaks rows player club price
rules_broken rows (item.Fixture fixture home away gameweek kickoff finished) = fixture_breaks rows (record { id = fixture; home = home; away = away; gw = gameweek; kickoff = kickoff }) finished
rules_broken rows (item.Line fixture player line) = line_breaks rows fixture player
rules_broken rows (item.Entry entry first key name) = issue_breaks rows entry first key
rules_broken rows (item.Team entry gameweek picks captain vice bank chip) = team_breaks (map_of rows) entry gameweek picks captain vice bank chip
rules_broken rows (item.Transfer entry gameweek number out into sold bought) = transfer_breaks (map_of rows) entry gameweek number out into sold bought
rules_broken rows (item.League league kind start creator order code name) = league_breaks rows league kind start creator order
rules_broken rows (item.Member league entry) = member_breaks rows league entry
rules_broken rows (item.Cup cup start slots coins) = cup_breaks rows cup start slots coins
rules_broken rows (item.Last caller number status made command) = last_breaks (map_of rows) caller number status made command

-- an item breaks a rule: there is no season, or one on what it tells of
abbrev pub breaks : Rows → Item → Bool
breaks rows i = misses (map_of rows) slot.Season || rules_broken rows i

-- a record breaks a rule
abbrev pub is_wrong : Rows → RecordKey × List ℕ → Bool
is_wrong rows row = option_map_or (breaks rows) (item_of row.0 row.1) false

-- the keys of the first record that is not spelled as an item in range, and of the first that breaks a rule
abbrev pub first_not_spelled : Rows → Option RecordKey
first_not_spelled rows = option_map (λ row. row.0) (find (λ row. not (is_spelled row)) rows)

abbrev pub first_wrong : Rows → Option RecordKey
first_wrong rows = option_map (λ row. row.0) (find (is_wrong rows) rows)

-- the key that is told of a store: the former, if there is one, else the latter; none where all records are lawful
abbrev pub judged : Rows → Option RecordKey
judged rows = option_or (first_not_spelled rows) (first_wrong rows)
