-- The records of a book: what is told of each slot, by looking it up.
use Rattle.std.specs.Prelude.{ℕ, if◌then◌else◌, List, Option, Some, None, map}
use Rattle.std.specs.Option.{option_map, option_and_then}
use Rattle.fpl_base.specs.Keeping.{Map}
use Rattle.fpl_base.specs.declared.kinds.Position.{Position}
use Rattle.fpl_base.specs.declared.kinds.Position.TheVariants.{Keeper}
use Rattle.rule_book.specs.declared.cup.Bracket.{Bracket}
use Rattle.rule_book.specs.declared.player.Player.{Player}
use Rattle.rule_book.specs.declared.season.Fixture.{Fixture}
use Rattle.rule_book.specs.declared.team.Pick.{Pick}
use Rattle.rule_book.specs.declared.team.Team.{Team}
use Rattle.rule_book.specs.declared.transfers.Sale.{Sale}
use Rattle.rule_book.specs.ById.{at_id}
use Rattle.rule_book.specs.Calendar.{fixture_of}
use Rattle.rule_book.specs.Entries.{entry_in}
use Rattle.rule_book.specs.EntryRecords.{sold_in}
use Rattle.rule_book.specs.History.{Event, is_touched}
use Rattle.rule_book.specs.LeagueCalls.{is_member}
use Rattle.rule_book.specs.Leagues.{LeagueFacts}
use Rattle.rule_book.specs.MatchFacts.{is_finished, line_of}
use Rattle.rule_book.specs.Players.{player_of}
use Rattle.rule_book.specs.TeamOfHistory.{team_of}
use Rattle.rule_book.specs.UpTo.{start_of}
use Rattle.season_book.specs.Book.{Book, EntryFacts, Facts, Last}
use Rattle.season_book.specs.declared.made.Made.{Made}
use Rattle.season_book.specs.declared.made.Made.TheVariants as made
use Rattle.season_records.specs.Items.{body_of}
use Rattle.season_records.specs.Keys.{slot_of}
use Rattle.season_records.specs.declared.item.Item.{Item}
use Rattle.season_records.specs.declared.item.Item.TheVariants as item
use Rattle.season_records.specs.declared.slot.Slot.{Slot}
use Rattle.season_records.specs.declared.slot.Slot.TheVariants as slot

-- What is told of each thing, under its numbers.

-- the season
abbrev pub season_item : Facts → Item
season_item facts = item.Season facts.profile facts.calendar.split facts.calendar.locked facts.calendar.deadlines

-- a player
abbrev pub player_item : ℕ → Player → Item
player_item p player = item.Player p player.position player.club player.price player.gone player.name

-- a fixture, with the finished mark of its sheet
abbrev pub fixture_item : ℕ → Facts → Fixture → Item
fixture_item f facts x = item.Fixture f x.home x.away x.gw x.kickoff (is_finished facts.matches f)

-- an entry, with its first gameweek once it is registered
abbrev pub entry_item : ℕ → EntryFacts → Item
entry_item e entry = item.Entry e (start_of entry.history) entry.key entry.name

-- a player of a team by slot, and the price at which he was bought
abbrev pub pick_told : Pick → ℕ × ℕ
pick_told pick = (pick.player, pick.bought)

-- a team. Positions are told with the players, not with it
abbrev pub team_item : ℕ → ℕ → Team → Item
team_item e g team = item.Team e g (map pick_told team.picks) team.captain team.vice team.bank team.chip

-- any position, where none is told
abbrev pub no_position : ℕ → Position
no_position p = Keeper

-- what a history tells of a gameweek's team, where something was done in that gameweek
abbrev pub team_told : ℕ → ℕ → List Event → Option Item
team_told e g h = if is_touched h g then Some (team_item e g (team_of no_position h g)) else None

-- a transfer
abbrev pub transfer_item : ℕ → ℕ → ℕ → Sale → Item
transfer_item e g n sale = item.Transfer e g n sale.out sale.into sale.sold sale.bought

-- what a history tells of a gameweek's transfers: the first is 1, and none is 0
abbrev pub transfer_told : ℕ → ℕ → ℕ → List Event → Option Item
transfer_told e g n h = option_map (transfer_item e g n) (entry_in (sold_in h g) n)

-- a league; its members are told one by one
abbrev pub league_item : ℕ → LeagueFacts → Item
league_item l league = item.League l league.kind league.start league.creator league.order league.code league.name

-- a member of a league
abbrev pub member_told : ℕ → ℕ → LeagueFacts → Option Item
member_told l e league = if is_member league e then Some (item.Member l e) else None

-- a cup
abbrev pub cup_item : ℕ → Bracket → Item
cup_item c cup = item.Cup c cup.start cup.slots cup.coins

-- the id of what a command made, and the status of its answer: 201 where it made something
abbrev pub made_id : Made → ℕ
made_id made.Nothing = 0
made_id (made.Entry e) = e
made_id (made.League l) = l
made_id (made.Cup c) = c

abbrev pub status_of : Made → ℕ
status_of made.Nothing = 200
status_of (made.Entry e) = 201
status_of (made.League l) = 201
status_of (made.Cup c) = 201

-- a caller's last accepted command
abbrev pub last_item : ℕ → Last → Item
last_item caller last = item.Last caller last.number (status_of last.made) (made_id last.made) last.command

-- What is told of each slot.

-- by the facts of a season
abbrev pub told_in : Facts → Slot → Option Item
told_in facts slot.Season = Some (season_item facts)
told_in facts (slot.Club c) = option_map (item.Club c) (at_id facts.clubs c)
told_in facts (slot.Player p) = option_map (player_item p) (player_of facts.players p)
told_in facts (slot.Fixture f) = option_map (fixture_item f facts) (fixture_of facts.calendar f)
told_in facts (slot.Line f p) = option_map (item.Line f p) (line_of facts.matches f p)
told_in facts s = None

-- by a book: nothing of the facts before the season
abbrev pub told : Book → Slot → Option Item
told book slot.Season = option_and_then (λ facts. told_in facts slot.Season) book.facts
told book (slot.Club c) = option_and_then (λ facts. told_in facts (slot.Club c)) book.facts
told book (slot.Player p) = option_and_then (λ facts. told_in facts (slot.Player p)) book.facts
told book (slot.Fixture f) = option_and_then (λ facts. told_in facts (slot.Fixture f)) book.facts
told book (slot.Line f p) = option_and_then (λ facts. told_in facts (slot.Line f p)) book.facts
told book (slot.Entry e) = option_map (entry_item e) (entry_in book.entries e)
told book (slot.Team e g) = option_and_then (λ entry. team_told e g entry.history) (entry_in book.entries e)
told book (slot.Transfer e g n) = option_and_then (λ entry. transfer_told e g n entry.history) (entry_in book.entries e)
told book (slot.League l) = option_map (league_item l) (entry_in book.leagues l)
told book (slot.Member l e) = option_and_then (member_told l e) (entry_in book.leagues l)
told book (slot.Cup c) = option_map (cup_item c) (entry_in book.cups c)
told book (slot.Last caller) = option_map (last_item caller) (at_id book.lasts caller)

-- The map.

-- the body of the slot that a key names, or none
abbrev pub at_keys : (Slot → Option Item) → Map
at_keys told key = option_map body_of (option_and_then told (slot_of key))

-- the records of a book
abbrev pub records : Book → Map
records book = at_keys (told book)
