-- Worked rows of a season, computed by the definitions.
use Rattle.std.proofs.Common.{◌≡◌, ◌≤◌, ◌+◌, refl, arith, ℕ, pos, negsuc, true, false, Bool, List, [], ◌∷◌, None, Some, map}
use Rattle.std.specs.Prelude.{ℤ, ◌==◌, if◌then◌else◌}
use Rattle.fpl_base.specs.declared.kinds.Chip.{Chip}
use Rattle.fpl_base.specs.declared.kinds.Chip.TheVariants as chip
use Rattle.fpl_base.specs.declared.kinds.Position.{Position}
use Rattle.fpl_base.specs.declared.kinds.Position.TheVariants.{Keeper, Defender, Midfielder, Forward}
use Rattle.fpl_base.specs.declared.kinds.Profile.TheVariants as profile
use Rattle.rule_book.specs.declared.cup.Bracket.{Bracket}
use Rattle.rule_book.specs.declared.league.LeagueKind.TheVariants.{Head}
use Rattle.rule_book.specs.declared.pairing.Opponent.TheVariants.{Place, Average}
use Rattle.rule_book.specs.declared.team.Pick.{Pick}
use Rattle.rule_book.specs.declared.team.Team.{Team}
use Rattle.rule_book.specs.declared.team_score.Figures.{Figures}
use Rattle.rule_book.specs.declared.team_score.TeamScore.{TeamScore}
use Rattle.rule_book.specs.Armbands.{armband_of}
use Rattle.rule_book.specs.CupRounds.{locked_winners}
use Rattle.rule_book.specs.FinalSlots.{final_slots}
use Rattle.rule_book.specs.Entries.{entry_in}
use Rattle.rule_book.specs.History.{Event, chip_at}
use Rattle.rule_book.specs.History.Deed.{First, Swap, Play}
use Rattle.rule_book.specs.HistoryRules.{IsHistory}
use Rattle.rule_book.specs.HistoryTransfers.{cost_at, counted_through, free_at}
use Rattle.rule_book.specs.LeagueRows.{classic_rows, head_rows}
use Rattle.rule_book.specs.Leagues.{LeagueFacts}
use Rattle.rule_book.specs.Opponents.{mean_of, opponent_of}
use Rattle.rule_book.specs.ScoreOfTeam.{score_of, side_of, sides}
use Rattle.rule_book.specs.Tables.{classic_table_of, head_table_of}
use Rattle.rule_book.specs.TeamOfHistory.{CanPay, team_of}
use Rattle.rule_book.specs.Teams.{starters}
use Rattle.rule_book.specs.Totals.{total_from}
use Rattle.rule_book.specs.UpTo.{up_to}

-- three transfers in gameweek 4, nothing in 2, 3 and 5, and nine under a wildcard in 6
abbrev begun : Event
begun = record { gw = 1; deed = First (record { player = 1; bought = 50 } ∷ []) 1 2 }

abbrev swap : ℕ → Event
swap g = record { gw = g; deed = Swap (record { out = 1; into = 2; sold = 50; bought = 50 }) }

abbrev season : List Event
season = begun ∷ swap 4 ∷ swap 4 ∷ swap 4 ∷ swap 6 ∷ swap 6 ∷ swap 6 ∷ swap 6 ∷ swap 6 ∷ swap 6 ∷ swap 6 ∷ swap 6 ∷ swap 6 ∷ record { gw = 6; deed = Play chip.Wildcard } ∷ []

free_transfers : map (free_at profile.A season) (2 ∷ 3 ∷ 4 ∷ 5 ∷ 6 ∷ 7 ∷ []) ≡ 1 ∷ 2 ∷ 2 ∷ 1 ∷ 2 ∷ 1 ∷ []
free_transfers = refl

costs : map (cost_at profile.A season) (1 ∷ 2 ∷ 3 ∷ 4 ∷ 5 ∷ 6 ∷ []) ≡ 0 ∷ 0 ∷ 0 ∷ 4 ∷ 0 ∷ 0 ∷ []
costs = refl

counted : counted_through season 7 ≡ 3
counted = refl

-- a free hit in gameweek 4: in 5 the team and the bank are those of 3
abbrev hit : List Event
hit = begun ∷ record { gw = 4; deed = Play chip.FreeHit } ∷ record { gw = 4; deed = Swap (record { out = 1; into = 2; sold = 50; bought = 55 }) } ∷ []

abbrev keeping : ℕ → Position
keeping p = Keeper

free_hit_team : team_of keeping hit 4 ≡ record { picks = record { player = 2; position = Keeper; bought = 55 } ∷ []; captain = 1; vice = 2; bank = 945; chip = chip.FreeHit }
free_hit_team = refl

team_comes_back : team_of keeping hit 5 ≡ team_of keeping hit 3
team_comes_back = refl

free_after_hit : free_at profile.A hit 5 ≡ 1
free_after_hit = refl

-- a history may pay more than it can: that it can pay is no rule of a history
abbrev too_dear : List Event
too_dear = record { gw = 1; deed = First (record { player = 1; bought = 1500 } ∷ []) 1 2 } ∷ []

once_at_most : (b : Bool) → (if b then 1 else 0) + 0 ≤ 1
once_at_most true = omega arith
once_at_most false = omega arith

dear_history : IsHistory too_dear
dear_history = ((tt, (refl, λ p. once_at_most (1 == p)), tt, refl), tt)

cannot_pay : CanPay too_dear 1 → ⊥
cannot_pay pays = omega (arith, pays)

-- a chip that is played in gameweek 2 is nothing to gameweek 1
same_before : up_to 1 (begun ∷ record { gw = 2; deed = Play chip.TripleCaptain } ∷ []) ≡ up_to 1 (begun ∷ [])
same_before = refl

other_after : chip_at (begun ∷ record { gw = 2; deed = Play chip.TripleCaptain } ∷ []) 2 ≡ chip.TripleCaptain
other_after = refl

-- there is no entry 0
nobody_is_zero : entry_in {X = ℕ} (7 ∷ 8 ∷ []) 0 ≡ None
nobody_is_zero = refl

the_first_is_one : entry_in {X = ℕ} (7 ∷ 8 ∷ []) 1 ≡ Some 7
the_first_is_one = refl

-- 3-4-3: a goalkeeper, three defenders, four midfielders and three forwards start
abbrev at : Position → Pick
at position = record { player = 1; position = position; bought = 50 }

abbrev team : Chip → Team
team c = record {
  picks = at Keeper ∷ at Defender ∷ at Defender ∷ at Defender ∷ at Midfielder ∷ at Midfielder ∷ at Midfielder ∷ at Midfielder ∷ at Forward ∷ at Forward ∷ at Forward ∷ at Keeper ∷ at Midfielder ∷ at Defender ∷ at Defender ∷ [];
  captain = 2;
  vice = 6;
  bank = 0;
  chip = c;
}

-- points, and whether he played
abbrev did : ℤ → Bool → Figures
did points played = record { points = points; played = played; goals = 0; conceded = 1 }

-- the defender in slot 2, the captain, and the midfielder in slot 5 did not play
abbrev two_away : List Figures
two_away = did (pos 2) true ∷ did (pos 0) false ∷ did (pos 2) true ∷ did (pos 2) true ∷ did (pos 0) false ∷ did (pos 5) true ∷ did (pos 2) true ∷ did (pos 2) true ∷ did (pos 2) true ∷ did (pos 2) true ∷ did (pos 2) true ∷ did (pos 0) false ∷ did (pos 9) true ∷ did (pos 6) true ∷ did (pos 1) true ∷ []

two_come_in : final_slots (team chip.None) two_away true ≡ 1 ∷ 14 ∷ 3 ∷ 4 ∷ 13 ∷ 6 ∷ 7 ∷ 8 ∷ 9 ∷ 10 ∷ 11 ∷ []
two_come_in = refl

nobody_before_the_end : final_slots (team chip.None) two_away false ≡ starters
nobody_before_the_end = refl

vice_captain : armband_of (team chip.TripleCaptain) two_away true ≡ Some (record { slot = 6; factor = 3 })
vice_captain = refl

-- 36 of the eleven, and the vice-captain's 5 once more
net_of_four_less : side_of (score_of (team chip.None) two_away true 4) ≡ record { net = pos 37; goals = 0; conceded = 11 }
net_of_four_less = refl

-- under a bench boost the 9 counts, and the eleven are the starters
boosted : (score_of (team chip.BenchBoost) two_away true 0).gross ≡ pos 42
boosted = refl

boosted_eleven : (score_of (team chip.BenchBoost) two_away true 0).eleven.slots ≡ starters
boosted_eleven = refl

-- nobody played: no armband, and the net is what the transfers cost
abbrev nobody : List Figures
nobody = map (λ s. did (pos 0) false) (team chip.None).picks

blank_armband : armband_of (team chip.None) nobody true ≡ None
blank_armband = refl

blank_net : (score_of (team chip.None) nobody true 4).net ≡ negsuc 3
blank_net = refl

-- the goalkeeper on the bench alone played
abbrev other_keeper : List Figures
other_keeper = did (pos 0) false ∷ did (pos 0) false ∷ did (pos 0) false ∷ did (pos 0) false ∷ did (pos 0) false ∷ did (pos 0) false ∷ did (pos 0) false ∷ did (pos 0) false ∷ did (pos 0) false ∷ did (pos 0) false ∷ did (pos 0) false ∷ did (pos 1) true ∷ []

keeper_comes_in : final_slots (team chip.None) other_keeper true ≡ 12 ∷ 2 ∷ 3 ∷ 4 ∷ 5 ∷ 6 ∷ 7 ∷ 8 ∷ 9 ∷ 10 ∷ 11 ∷ []
keeper_comes_in = refl

-- the rounds of four members, and the first of three
four_members : map (opponent_of 4 0) (0 ∷ 1 ∷ 2 ∷ 3 ∷ []) ≡ Place 3 ∷ Place 2 ∷ Place 1 ∷ Place 0 ∷ []
four_members = refl

second_round : map (opponent_of 4 1) (0 ∷ 1 ∷ 2 ∷ 3 ∷ []) ≡ Place 1 ∷ Place 0 ∷ Place 3 ∷ Place 2 ∷ []
second_round = refl

third_round : map (opponent_of 4 2) (0 ∷ 1 ∷ 2 ∷ 3 ∷ []) ≡ Place 2 ∷ Place 3 ∷ Place 0 ∷ Place 1 ∷ []
third_round = refl

round_again : map (opponent_of 4 3) (0 ∷ 1 ∷ 2 ∷ 3 ∷ []) ≡ map (opponent_of 4 0) (0 ∷ 1 ∷ 2 ∷ 3 ∷ [])
round_again = refl

three_members : map (opponent_of 3 0) (0 ∷ 1 ∷ 2 ∷ []) ≡ Average ∷ Place 2 ∷ Place 1 ∷ []
three_members = refl

-- means are rounded down
mean_below : mean_of (negsuc 0 ∷ pos 0 ∷ pos 0 ∷ []) ≡ negsuc 0
mean_below = refl

-- a league of three with 50, 41 and 40 points in its first gameweek
abbrev of_three : List ℕ → LeagueFacts
of_three order = record { kind = Head; name = []; code = []; start = 3; creator = 1; members = 1 ∷ 2 ∷ 3 ∷ []; order = order }

abbrev points : ℕ → ℕ → ℤ
points e g = if e == 1 then pos 50 else if e == 2 then pos 41 else pos 40

head_table : head_table_of (head_rows points 3 (of_three (1 ∷ 2 ∷ 3 ∷ []))) ≡ record { rank = 1; entry = 1; score = record { points = 3; won = 1; drawn = 0; lost = 0; scored = pos 50 } } ∷ record { rank = 2; entry = 2; score = record { points = 3; won = 1; drawn = 0; lost = 0; scored = pos 41 } } ∷ record { rank = 3; entry = 3; score = record { points = 0; won = 0; drawn = 0; lost = 1; scored = pos 40 } } ∷ []
head_table = refl

-- before it is drawn all have nothing, and share the first rank
not_drawn : map (λ row. row.rank) (head_table_of (head_rows points 3 (of_three []))) ≡ 1 ∷ 1 ∷ 1 ∷ []
not_drawn = refl

-- 57 points after 3, 3 and 5 transfers, and 60 after 9
abbrev four_rows : List (ℕ × ℤ × ℕ)
four_rows = (1, pos 57, 3) ∷ (2, pos 57, 3) ∷ (3, pos 57, 5) ∷ (4, pos 60, 9) ∷ []

classic_entries : map (λ row. row.entry) (classic_table_of four_rows) ≡ 4 ∷ 1 ∷ 2 ∷ 3 ∷ []
classic_entries = refl

classic_ranks : map (λ row. row.rank) (classic_table_of four_rows) ≡ 1 ∷ 2 ∷ 2 ∷ 4 ∷ []
classic_ranks = refl

-- a total counts from the later of two gameweeks on
total_of_three : total_from (points 1) 2 (Some 1) 4 ≡ pos 150
total_of_three = refl

total_from_first : total_from (points 1) 2 (Some 4) 4 ≡ pos 50
total_from_first = refl

total_of_nothing : total_from (points 1) 2 (Some 5) 4 ≡ pos 0
total_of_nothing = refl

classic_league : classic_rows points (λ e. Some e) (λ e. 2) 4 (of_three []) ≡ (1, pos 100, 2) ∷ (2, pos 82, 2) ∷ (3, pos 80, 2) ∷ []
classic_league = refl

-- a cup of four with one bye, whose entries are level: the bye lets entry 1 through, and a coin of 1 sends entry 3 on
abbrev cup : Bracket
cup = record { start = 2; slots = 1 ∷ 0 ∷ 2 ∷ 3 ∷ []; coins = 0 ∷ 1 ∷ 0 ∷ [] }

abbrev level : ℕ → ℕ → TeamScore
level e g = score_of (team chip.None) two_away true 4

first_round : locked_winners cup (sides level) 2 1 ≡ Some (1 ∷ 3 ∷ [])
first_round = refl

not_played : locked_winners cup (sides level) 2 2 ≡ None
not_played = refl
