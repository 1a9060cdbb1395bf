-- A worked book: what some slots tell, and what some commands touch.
use Rattle.std.proofs.Common.{◌≡◌, ℕ, true, false, List, [], ◌∷◌, ◌++◌, Some, None, map, refl}
use Rattle.std.specs.List.{range_with_len}
use Rattle.fpl_base.specs.declared.kinds.Caller.TheVariants.{Operator, Entry}
use Rattle.fpl_base.specs.declared.kinds.Chip.TheVariants.{None as NoChip, FreeHit, BenchBoost}
use Rattle.fpl_base.specs.declared.kinds.Position.TheVariants.{Forward}
use Rattle.fpl_base.specs.declared.kinds.Profile.TheVariants.{A}
use Rattle.rule_book.specs.declared.league.LeagueKind.TheVariants as kind
use Rattle.rule_book.specs.History.{Event}
use Rattle.rule_book.specs.History.Deed.{First, Swap, Play, Cancel}
use Rattle.season_book.specs.Book.{Book, Facts}
use Rattle.season_book.specs.declared.command.Command.TheVariants as command
use Rattle.season_book.specs.declared.made.Made.TheVariants as made
use Rattle.season_records.specs.declared.item.Item.TheVariants as item
use Rattle.season_records.specs.declared.slot.Slot.TheVariants as slot
use Rattle.season_records.specs.Records.{told}
use Rattle.season_records.specs.Touched.{touched}

-- players 1 to 15 at 6.0 million, of whom 15 goes for 21 on a free hit in gameweek 2; in gameweek 3 a chip that is taken
-- back, and 14 goes for 22
abbrev history : List Event
history =
    record { gw = 1; deed = First (map (λ p. record { player = p; bought = 60 }) (range_with_len 1 15)) 8 9 }
    ∷ record { gw = 2; deed = Play FreeHit }
    ∷ record { gw = 2; deed = Swap (record { out = 15; into = 21; sold = 61; bought = 70 }) }
    ∷ record { gw = 3; deed = Play BenchBoost }
    ∷ record { gw = 3; deed = Cancel }
    ∷ record { gw = 3; deed = Swap (record { out = 14; into = 22; sold = 62; bought = 50 }) }
    ∷ []

abbrev facts : Facts
facts = record {
  profile = A;
  calendar = record {
    deadlines = 100 ∷ 200 ∷ 300 ∷ [];
    split = 2;
    locked = 2;
    fixtures = record { id = 7; home = 1; away = 2; gw = Some 2; kickoff = 6000 } ∷ [];
  };
  clubs = (1, 65 ∷ []) ∷ (2, 66 ∷ []) ∷ [];
  players = record { id = 15; name = 67 ∷ []; position = Forward; club = 2; price = 61; gone = true } ∷ [];
  matches = (7, record { lines = (15, record { figures = 90 ∷ [] }) ∷ []; finished = true }) ∷ [];
}

abbrev book : Book
book = record {
  facts = Some facts;
  entries = record { key = 75 ∷ []; name = 78 ∷ []; history = [] } ∷ record { key = 76 ∷ []; name = 79 ∷ []; history = history } ∷ [];
  leagues = record { kind = kind.Classic; name = 68 ∷ []; code = 69 ∷ []; start = 3; creator = 2; members = 2 ∷ []; order = [] } ∷ [];
  cups = [];
  lasts = (0, record { number = 5; command = command.Key (76 ∷ []) (79 ∷ []); made = made.Entry 2 }) ∷ (2, record { number = 4; command = command.CancelChip; made = made.Nothing }) ∷ [];
}

-- slots of the facts
facts_rows : map (told book) (slot.Season ∷ slot.Club 2 ∷ slot.Club 3 ∷ slot.Player 15 ∷ slot.Fixture 7 ∷ slot.Line 7 15 ∷ slot.Line 7 16 ∷ [])
    ≡ Some (item.Season A 2 2 (100 ∷ 200 ∷ 300 ∷ []))
    ∷ Some (item.Club 2 (66 ∷ []))
    ∷ None
    ∷ Some (item.Player 15 Forward 2 61 true (67 ∷ []))
    ∷ Some (item.Fixture 7 1 2 (Some 2) 6000 true)
    ∷ Some (item.Line 7 15 (record { figures = 90 ∷ [] }))
    ∷ None
    ∷ []
facts_rows = refl

-- entries, members and last commands; entry 2 was made by the operator's last command
entry_rows : map (told book) (slot.Entry 0 ∷ slot.Entry 1 ∷ slot.Entry 2 ∷ slot.Entry 3 ∷ slot.Member 1 1 ∷ slot.Member 1 2 ∷ slot.Last 0 ∷ slot.Last 1 ∷ slot.Last 2 ∷ [])
    ≡ None
    ∷ Some (item.Entry 1 None (75 ∷ []) (78 ∷ []))
    ∷ Some (item.Entry 2 (Some 1) (76 ∷ []) (79 ∷ []))
    ∷ None
    ∷ None
    ∷ Some (item.Member 1 2)
    ∷ Some (item.Last 0 5 201 2 (command.Key (76 ∷ []) (79 ∷ [])))
    ∷ None
    ∷ Some (item.Last 2 4 200 0 command.CancelChip)
    ∷ []
entry_rows = refl

-- teams: 100 are left of the first squad, 91 behind the transfer on a free hit, and 112 behind the one of gameweek 3
abbrev at_60 : List ℕ → List (ℕ × ℕ)
at_60 players = map (λ p. (p, 60)) players

team_rows : map (told book) (slot.Team 1 1 ∷ slot.Team 2 1 ∷ slot.Team 2 2 ∷ slot.Team 2 3 ∷ slot.Team 2 4 ∷ [])
    ≡ None
    ∷ Some (item.Team 2 1 (at_60 (range_with_len 1 15)) 8 9 100 NoChip)
    ∷ Some (item.Team 2 2 (at_60 (range_with_len 1 14) ++ (21, 70) ∷ []) 8 9 91 FreeHit)
    ∷ Some (item.Team 2 3 (at_60 (range_with_len 1 13) ++ (22, 50) ∷ (15, 60) ∷ []) 8 9 112 NoChip)
    ∷ None
    ∷ []
team_rows = refl

-- transfers, from 1
transfer_rows : map (told book) (slot.Transfer 2 2 0 ∷ slot.Transfer 2 2 1 ∷ slot.Transfer 2 2 2 ∷ slot.Transfer 2 3 1 ∷ [])
    ≡ None ∷ Some (item.Transfer 2 2 1 15 21 61 70) ∷ None ∷ Some (item.Transfer 2 3 1 14 22 62 50) ∷ []
transfer_rows = refl

-- what commands touch: two more transfers in gameweek 3, a sheet with another player, a second league
transfers_touch : touched book (Entry 2) (command.Transfers (record { out = 1; into = 31 } ∷ record { out = 2; into = 32 } ∷ []))
    ≡ slot.Last 2 ∷ slot.Team 2 3 ∷ slot.Transfer 2 3 2 ∷ slot.Transfer 2 3 3 ∷ []
transfers_touch = refl

sheet_touches : touched book Operator (command.Sheet 7 ((16, record { figures = 45 ∷ [] }) ∷ []) false)
    ≡ slot.Last 0 ∷ slot.Fixture 7 ∷ slot.Line 7 15 ∷ slot.Line 7 16 ∷ []
sheet_touches = refl

league_touches : touched book (Entry 2) (command.League kind.Head (70 ∷ []) (71 ∷ []) 3) ≡ slot.Last 2 ∷ slot.League 2 ∷ slot.Member 2 2 ∷ []
league_touches = refl
