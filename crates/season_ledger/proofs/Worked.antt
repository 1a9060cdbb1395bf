-- The definitions at a small season: a swap, a free hit with a swap and a lineup, and the gameweek after it.
use Rattle.std.proofs.Common.{◌≡◌, ◌+◌, ◌∷◌, [], ℕ, true, false, List, map, refl}
use Rattle.rule_book.specs.History.{Event, chip_at, kept}
use Rattle.rule_book.specs.HistorySquad.{holdings_of, order_of, armbands_of, spent, earned, in_squad, given_up}
use Rattle.fpl_base.specs.declared.kinds.Chip.TheVariants.{None as NoChip, Wildcard, FreeHit, BenchBoost}
use Rattle.fpl_base.specs.declared.kinds.Profile.TheVariants as profile
use Rattle.rule_book.specs.HistoryTransfers.{free_at, cost_at, counted_through, used_before}
use Rattle.std.proofs.Common.{Some, None}
use Rattle.rule_book.specs.History.Deed.{First, Swap, Lineup, Play, Cancel}

abbrev season : List Event
season =
    record { gw = 3; deed = First (record { player = 1; bought = 50 } ∷ record { player = 2; bought = 60 } ∷ record { player = 3; bought = 70 } ∷ []) 1 2 }
    ∷ record { gw = 4; deed = Swap (record { out = 2; into = 5; sold = 61; bought = 80 }) }
    ∷ record { gw = 4; deed = Lineup (5 ∷ 1 ∷ 3 ∷ []) 2 3 }
    ∷ record { gw = 4; deed = Play BenchBoost }
    ∷ record { gw = 4; deed = Cancel }
    ∷ record { gw = 4; deed = Swap (record { out = 5; into = 2; sold = 80; bought = 62 }) }
    ∷ record { gw = 5; deed = Swap (record { out = 1; into = 7; sold = 50; bought = 90 }) }
    ∷ record { gw = 5; deed = Play FreeHit }
    ∷ record { gw = 5; deed = Lineup (7 ∷ 3 ∷ 2 ∷ []) 1 3 }
    ∷ record { gw = 6; deed = Swap (record { out = 3; into = 7; sold = 71; bought = 91 }) }
    ∷ []

order_4 : order_of (kept season 4) ≡ 2 ∷ 1 ∷ 3 ∷ []
order_4 = refl

order_5 : order_of (kept season 5) ≡ 7 ∷ 3 ∷ 2 ∷ []
order_5 = refl

picks_6 : holdings_of (kept season 6) ≡ record { player = 2; bought = 62 } ∷ record { player = 1; bought = 50 } ∷ record { player = 7; bought = 91 } ∷ []
picks_6 = refl

armbands_6 : armbands_of (kept season 6) ≡ (2, 3)
armbands_6 = refl

chips : chip_at season 4 ≡ NoChip
chips = refl

in_6 : map (in_squad (kept season 6)) (1 ∷ 2 ∷ 3 ∷ 5 ∷ 7 ∷ []) ≡ true ∷ true ∷ false ∷ false ∷ true ∷ []
in_6 = refl

-- 1000 - 180 + (61 - 80) + (80 - 62) + (71 - 91)
bank_6 : spent (kept season 6) ≡ 180 + 80 + 62 + 91
bank_6 = refl

earned_6 : earned (kept season 6) ≡ 61 + 80 + 71
earned_6 = refl

given_6 : given_up [] (kept season 6) ≡ 60 + 80 + 70
given_6 = refl

-- free transfers and hits: registered in gameweek 1, with 0, 0, 3 transfers in 2, 3, 4, none in 5, and a wildcard with 9
-- in 6
abbrev swap_in : ℕ → Event
swap_in g = record { gw = g; deed = Swap (record { out = 1; into = 2; sold = 50; bought = 50 }) }

abbrev registered : Event
registered = record { gw = 1; deed = First [] 1 2 }

abbrev transfers : List Event
transfers = registered ∷ swap_in 4 ∷ swap_in 4 ∷ swap_in 4
    ∷ swap_in 6 ∷ swap_in 6 ∷ swap_in 6 ∷ swap_in 6 ∷ record { gw = 6; deed = Play Wildcard } ∷ swap_in 6 ∷ swap_in 6 ∷ swap_in 6 ∷ swap_in 6 ∷ swap_in 6 ∷ []

free_2_to_7 : map (free_at profile.A transfers) (2 ∷ 3 ∷ 4 ∷ 5 ∷ 6 ∷ 7 ∷ []) ≡ 1 ∷ 2 ∷ 2 ∷ 1 ∷ 2 ∷ 1 ∷ []
free_2_to_7 = refl

cost_1_to_6 : map (cost_at profile.A transfers) (1 ∷ 2 ∷ 3 ∷ 4 ∷ 5 ∷ 6 ∷ []) ≡ 0 ∷ 0 ∷ 0 ∷ 4 ∷ 0 ∷ 0 ∷ []
cost_1_to_6 = refl

counted_7 : counted_through transfers 7 ≡ 3
counted_7 = refl

-- under the later rules: no transfers at all
free_later : map (free_at profile.B (registered ∷ [])) (2 ∷ 3 ∷ 4 ∷ 5 ∷ 6 ∷ 7 ∷ []) ≡ 1 ∷ 2 ∷ 3 ∷ 4 ∷ 5 ∷ 5 ∷ []
free_later = refl

-- under the later rules: a wildcard with 9 transfers in 4, 3 transfers in 5, 5 in 6
abbrev rebuilt : List Event
rebuilt = registered ∷ record { gw = 4; deed = Play Wildcard }
    ∷ swap_in 4 ∷ swap_in 4 ∷ swap_in 4 ∷ swap_in 4 ∷ swap_in 4 ∷ swap_in 4 ∷ swap_in 4 ∷ swap_in 4 ∷ swap_in 4
    ∷ swap_in 5 ∷ swap_in 5 ∷ swap_in 5 ∷ swap_in 6 ∷ swap_in 6 ∷ swap_in 6 ∷ swap_in 6 ∷ swap_in 6 ∷ []

free_rebuilt : map (free_at profile.B rebuilt) (4 ∷ 5 ∷ 6 ∷ []) ≡ 3 ∷ 3 ∷ 1 ∷ []
free_rebuilt = refl

cost_rebuilt : map (cost_at profile.B rebuilt) (4 ∷ 5 ∷ 6 ∷ []) ≡ 0 ∷ 0 ∷ 16 ∷ []
cost_rebuilt = refl

-- a bench boost taken back in 3 and played in 4; wildcards in 20 and 21 of a season that splits at 20
abbrev chips_played : List Event
chips_played = registered ∷ record { gw = 3; deed = Play BenchBoost } ∷ record { gw = 3; deed = Cancel } ∷ record { gw = 4; deed = Play BenchBoost }
    ∷ record { gw = 20; deed = Play Wildcard } ∷ record { gw = 21; deed = Play Wildcard } ∷ []

boosts : map (used_before 20 (chip_at chips_played) BenchBoost) (4 ∷ 5 ∷ []) ≡ None ∷ Some 4 ∷ []
boosts = refl

wildcards : map (used_before 20 (chip_at chips_played) Wildcard) (20 ∷ 21 ∷ 22 ∷ []) ≡ None ∷ None ∷ Some 21 ∷ []
wildcards = refl
