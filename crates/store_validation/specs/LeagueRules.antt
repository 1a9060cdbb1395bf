-- The rules on entries, leagues, members, cups and last commands: when a record of a store breaks one of them.
use Rattle.std.specs.Prelude.{ℕ, ◌-◌, Bool, false, not, ◌&&◌, ◌||◌, ◌==◌, List, Option, Some, None, is_some, nat_le, count_by, filter, map, length}
use Rattle.std.specs.List.{list_any, range_with_len}
use Rattle.std.specs.Option.{option_map_or}
use Rattle.std.specs.Str.{bytes_eq}
use Rattle.fpl_base.specs.Keeping.{Map, map_of}
use Rattle.rule_book.specs.CupCalls.{entrants, most_cups}
use Rattle.rule_book.specs.Cups.{is_cup}
use Rattle.rule_book.specs.Entries.{most_entries}
use Rattle.rule_book.specs.HeadToHead.{is_draw}
use Rattle.rule_book.specs.LeagueCalls.{is_head, most_leagues, most_leagues_of_one, most_members}
use Rattle.rule_book.specs.declared.league.LeagueKind.{LeagueKind}
use Rattle.season_book.specs.declared.command.Command.{Command}
use Rattle.season_book.specs.declared.command.Command.TheVariants as command
use Rattle.season_records.specs.ItemReading.{item_of}
use Rattle.season_records.specs.Keys.{key_of}
use Rattle.season_records.specs.declared.item.Item.{Item}
use Rattle.season_records.specs.declared.item.Item.TheVariants as item
use Rattle.season_records.specs.declared.slot.Slot.{Slot}
use Rattle.season_records.specs.declared.slot.Slot.TheVariants as slot
use Rattle.stored_records.specs.SeasonRules.{is_full, misses}
use Rattle.stored_records.specs.Stored.{Rows, deadlines_told, has_gameweek, is_member_of, is_there, is_within, told}
use Rattle.store_validation.specs.EntryRules.{entry_breaks, first_told}

-- What the rules share.

-- ids are 1, 2, 3 and so on: one above 1 stands behind the one before it
abbrev pub has_gap : Map → ℕ → Slot → Bool
has_gap m id before = not (id == 1) && misses m before

-- an entry is there and registered
abbrev pub is_registered : Map → ℕ → Bool
is_registered m e = is_some (first_told m e)

-- an entry is registered, with a first gameweek that is not after the start
abbrev pub plays_from : Map → ℕ → ℕ → Bool
plays_from m start e = option_map_or (λ first. nat_le first start) (first_told m e) false

-- Entries.

-- a record of an entry that has this key
abbrev pub has_key : List ℕ → Option Item → Bool
has_key key (Some (item.Entry entry first own name)) = bytes_eq own key
has_key key other = false

-- an entry of a smaller id has the same key
abbrev pub has_other_key : Rows → ℕ → List ℕ → Bool
has_other_key rows entry key =
    list_any (λ row. is_within (key_of (slot.Entry 0)) (key_of (slot.Entry entry)) row.0 && has_key key (item_of row.0 row.1)) rows

-- the entry before it is not there; its key is another's; it is registered and has no team in its first gameweek; as many
-- entries as there can be have smaller ids
abbrev pub issue_breaks : Rows → ℕ → Option ℕ → List ℕ → Bool
issue_breaks rows entry first key =
    has_gap (map_of rows) entry (slot.Entry (entry - 1))
    || has_other_key rows entry key
    || entry_breaks (map_of rows) entry first
    || is_full rows most_entries (slot.Entry 0) (slot.Entry entry)

-- Leagues.

-- the members of a league, by ascending id
abbrev pub members_of : Rows → ℕ → List ℕ
members_of rows league = map (λ row. row.0.b) (filter (is_member_of league) rows)

-- a league was drawn and is a classic one, or the order is none of its members
abbrev pub is_drawn_wrong : LeagueKind → List ℕ → List ℕ → Bool
is_drawn_wrong kind order members = not (length order == 0) && not (is_head kind && is_draw order members)

-- the start, the creator or an entry of the order is not there; the creator is no member, or a member is not registered;
-- the draw is wrong, or an entry of it starts after the league; the league before it is not there; as many leagues as
-- there can be have smaller ids
abbrev pub league_breaks : Rows → ℕ → LeagueKind → ℕ → ℕ → List ℕ → Bool
league_breaks rows league kind start creator order =
    let m = map_of rows in
    not (has_gameweek m start)
    || misses m (slot.Entry creator)
    || list_any (λ e. misses m (slot.Entry e)) order
    || misses m (slot.Member league creator)
    || list_any (λ e. not (is_registered m e)) (members_of rows league)
    || is_drawn_wrong kind order (members_of rows league)
    || list_any (λ e. not (plays_from m start e)) order
    || has_gap m league (slot.League (league - 1))
    || is_full rows most_leagues (slot.League 0) (slot.League league)

-- Members.

-- in how many leagues of smaller ids an entry is
abbrev pub leagues_before : Map → ℕ → ℕ → ℕ
leagues_before m league e = count_by (λ l. is_there m (slot.Member l e)) (range_with_len 1 (league - 1))

-- the kind of a league
abbrev pub kind_in : Option Item → Option LeagueKind
kind_in (Some (item.League league kind start creator order code name)) = Some kind
kind_in other = None

abbrev pub kind_told : Map → ℕ → Option LeagueKind
kind_told m league = kind_in (told m (slot.League league))

-- as many entries of smaller ids are members of the league as its kind allows
abbrev pub is_league_full : Rows → ℕ → ℕ → Option LeagueKind → Bool
is_league_full rows league e None = false
is_league_full rows league e (Some kind) = is_full rows (most_members kind) (slot.Member league 0) (slot.Member league e)

-- the league or the entry is not there; the entry is in as many leagues of smaller ids as it can be in; the league is full
-- without it
abbrev pub member_breaks : Rows → ℕ → ℕ → Bool
member_breaks rows league e =
    let m = map_of rows in
    misses m (slot.League league)
    || misses m (slot.Entry e)
    || nat_le most_leagues_of_one (leagues_before m league e)
    || is_league_full rows league e (kind_told m league)

-- Cups.

-- the start or an entrant is not there; it can't be played in the season; an entrant is not registered or starts after the
-- cup; the cup before it is not there; as many cups as there can be have smaller ids
abbrev pub cup_breaks : Rows → ℕ → ℕ → List ℕ → List ℕ → Bool
cup_breaks rows cup start slots coins =
    let m = map_of rows in
    not (has_gameweek m start)
    || list_any (λ e. misses m (slot.Entry e)) (entrants slots)
    || not (is_cup (record { start = start; slots = slots; coins = coins }) (length (deadlines_told m)))
    || list_any (λ e. not (plays_from m start e)) (entrants slots)
    || has_gap m cup (slot.Cup (cup - 1))
    || is_full rows most_cups (slot.Cup 0) (slot.Cup cup)

-- Last commands.

-- the status and the id of what was made are those of the command: 201 and what is there for a new key, league or cup, and
-- else 200 and 0
abbrev pub is_answer : Map → ℕ → ℕ → Command → Bool
is_answer m status made (command.Key key name) = status == 201 && is_there m (slot.Entry made)
is_answer m status made (command.League kind name code start) = status == 201 && is_there m (slot.League made)
is_answer m status made (command.Cup start slots coins) = status == 201 && is_there m (slot.Cup made)
is_answer m status made other = status == 200 && made == 0

-- the caller is neither the operator nor an entry that is there; the number is 0; the answer is none of the command
abbrev pub last_breaks : Map → ℕ → ℕ → ℕ → ℕ → Command → Bool
last_breaks m caller number status made command =
    not (caller == 0) && misses m (slot.Entry caller) || number == 0 || not (is_answer m status made command)
