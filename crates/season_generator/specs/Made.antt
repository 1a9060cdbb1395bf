-- The steps of a made-up season, by its seed.
use Rattle.std.specs.Prelude.{ℕ, ◌+◌, ◌-◌, ◌*◌, ◌/◌, ◌%◌, ◌==◌, ◌++◌, List, [], ◌∷◌, Bool, true, Option, Some, codes, cond, drop, map, nat_lt, nat_le, replicate, slice_index}
use Rattle.std.specs.List.{range_with_len}
use Rattle.std.specs.Option.{option_map}
use Rattle.std.specs.Fmt.{decimal}
use Rattle.fpl_base.specs.declared.kinds.Caller.{Caller}
use Rattle.fpl_base.specs.declared.kinds.Caller.TheVariants as caller
use Rattle.fpl_base.specs.declared.kinds.Position.{Position}
use Rattle.fpl_base.specs.declared.kinds.Position.TheVariants as position
use Rattle.fpl_base.specs.declared.kinds.Profile.TheVariants as profile
use Rattle.rule_book.specs.declared.league.LeagueKind.TheVariants as kind
use Rattle.rule_book.specs.declared.line.Line.{Line}
use Rattle.season_book.specs.declared.command.Command.{Command}
use Rattle.season_book.specs.declared.command.Command.TheVariants as command
use Rattle.season_generator.specs.Draws.{draw, draws_at}
use Rattle.season_generator.specs.Places.{place_of}
use Rattle.season_generator.specs.declared.made.Step.{Step}
use Rattle.season_generator.specs.declared.places.Place.{Place}
use Rattle.season_generator.specs.declared.places.Place.TheVariants as place

-- The facts.

-- twenty clubs, C1 to C20
abbrev pub club_of : ℕ → ℕ × List ℕ
club_of i = (i, codes "C" ++ decimal i)

unfoldable pub clubs : ℕ → List (ℕ × List ℕ)
clubs n = map club_of (range_with_len 1 n)

abbrev pub season_command : Command
season_command = command.Season profile.A (1691775000 ∷ []) 1 (clubs 20)

-- the positions of the thirty bands of twenty players
abbrev pub position_in : ℕ → Position
position_in band = cond (nat_lt band 3) position.Keeper (cond (nat_lt band 12) position.Defender (cond (nat_lt band 23) position.Midfielder position.Forward))

-- a player costs 4.0 to 6.4 million
abbrev pub player_command : ℕ → ℕ → Command
player_command seed p = command.Player p (codes "P" ++ decimal p) (position_in ((p - 1) / 20)) ((p - 1) % 20 + 1) (40 + draw seed (p - 1) % 25)

abbrev pub fixture_command : ℕ → Command
fixture_command f = command.Fixture f (2 * f - 1) (2 * f) (Some 1) 1691780400

-- The entries.

abbrev pub digit : ℕ → ℕ
digit n = 48 + n % 10

-- `entrykey` and the entry in four digits
abbrev pub key_text : ℕ → List ℕ
key_text e = codes "entrykey" ++ (digit (e / 1000) ∷ digit (e / 100) ∷ digit (e / 10) ∷ digit e ∷ [])

abbrev pub key_command : ℕ → Command
key_command e = command.Key (key_text e) (codes "E" ++ decimal e)

-- the first band of the position of a slot, and how many bands there are
abbrev pub bands_of : ℕ → ℕ × ℕ
bands_of slot =
    cond (slot == 1) (0, 3) (cond (slot == 12) (0, 3)
    (cond (nat_le slot 5) (3, 9) (cond (slot == 13) (3, 9)
    (cond (nat_le slot 9) (12, 11) (cond (slot == 14) (12, 11) (23, 7))))))

-- the player in a slot of an entry, by a draw
abbrev pub player_in : ℕ → ℕ → ℕ → ℕ
player_in e slot drawn = 20 * ((bands_of slot).0 + drawn % (bands_of slot).1) + (e + slot - 1) % 20 + 1

-- the players by slot, each by a draw
unfoldable pub squad_by : ℕ → List ℕ → List ℕ
squad_by e drawn = map (λ k. player_in e (k + 1) (slice_index drawn k)) (range_with_len 0 15)

-- a sixteenth draw tells the captain, in slot 2 to 11; the vice-captain is in slot 1
abbrev pub squad_command : ℕ → List ℕ → Command
squad_command e drawn =
    command.Squad (squad_by e drawn) (slice_index (squad_by e drawn) (1 + slice_index drawn 15 % 10)) (slice_index (squad_by e drawn) 0)

abbrev pub league_command : Command
league_command = command.League kind.Classic (codes "All") (codes "all1") 1

abbrev pub join_command : Command
join_command = command.Join 1 (codes "all1")

-- The sheets.

-- 1 where n divides the draw
abbrev pub one_in : ℕ → ℕ → ℕ
one_in n drawn = cond (drawn % n == 0) 1 0

-- eight draws as figures: minutes, goals, assists, conceded, saves of a goalkeeper, yellow cards, and passes; nothing
-- where there are no minutes
abbrev pub figures_by : List ℕ → Bool → List ℕ
figures_by drawn keeper =
    let minutes = 30 * (slice_index drawn 0 % 4) in
    let attempted = slice_index drawn 6 % 60 in
    let completed = attempted - slice_index drawn 7 % (attempted + 1) in
    cond (minutes == 0) (replicate 28 0)
    (minutes ∷ one_in 8 (slice_index drawn 1) ∷ one_in 8 (slice_index drawn 2) ∷ slice_index drawn 3 % 3 ∷ cond keeper (slice_index drawn 4 % 7) 0
    ∷ 0 ∷ 0 ∷ one_in 10 (slice_index drawn 5) ∷ (replicate 10 0 ++ (attempted ∷ completed ∷ replicate 8 0)))

-- the bands of the sixteen players of a club that play
abbrev pub bands : List ℕ
bands = 0 ∷ 1 ∷ 3 ∷ 4 ∷ 5 ∷ 6 ∷ 7 ∷ 8 ∷ 12 ∷ 13 ∷ 14 ∷ 15 ∷ 16 ∷ 23 ∷ 24 ∷ 25 ∷ []

abbrev pub band_at : ℕ → ℕ
band_at place = slice_index bands (place % 16)

-- the line at a place, from 0, by eight draws: the home club's sixteen, then the away club's
abbrev pub line_by : ℕ → ℕ → List ℕ → ℕ × Line
line_by f place drawn = (20 * band_at place + (2 * f - 1 + place / 16), record { figures = figures_by drawn (nat_lt (band_at place) 3) })

-- the first lines of a fixture, from this draw on
unfoldable pub lines_at : ℕ → ℕ → ℕ → ℕ → List (ℕ × Line)
lines_at seed from f n = map (λ k. line_by f k (draws_at seed (from + 8 * k) 8)) (range_with_len 0 n)

-- the first line of the first fixture, with 90 minutes and one goal more
abbrev pub line_again : ℕ → Command
line_again seed =
    let first = line_by 1 0 (draws_at seed 8600 8) in
    let figures = first.1.figures in
    command.Line 1 first.0 (record { figures = 90 ∷ (slice_index figures 1 + 1) ∷ drop 2 figures })

-- The steps.

-- how many draws are taken before those of a step
abbrev pub draws_before : Place → ℕ
draws_before (place.Player p) = p - 1
draws_before (place.Squad e) = 600 + 16 * (e - 1)
draws_before (place.Sheet f) = 8600 + 256 * (f - 1)
draws_before place = 8600

abbrev pub command_at : ℕ → Place → Command
command_at seed place.Season = season_command
command_at seed (place.Player p) = player_command seed p
command_at seed (place.Fixture f) = fixture_command f
command_at seed (place.Key e) = key_command e
command_at seed (place.Squad e) = squad_command e (draws_at seed (600 + 16 * (e - 1)) 16)
command_at seed place.League = league_command
command_at seed (place.Join e) = join_command
command_at seed (place.Sheet f) = command.Sheet f (lines_at seed (8600 + 256 * (f - 1)) f 32) true
command_at seed place.Again = line_again seed

-- squads and leagues are the entries', all else the operator's
abbrev pub caller_of : Place → Caller
caller_of (place.Squad e) = caller.Entry e
caller_of place.League = caller.Entry 1
caller_of (place.Join e) = caller.Entry e
caller_of place = caller.Operator

-- the sheets come behind the kick-off, all else before the deadline
abbrev pub moment_of : Place → ℕ
moment_of (place.Sheet f) = 1691790000
moment_of place.Again = 1691790000
moment_of place = 1691700000

-- the numbers of each caller's commands rise by one from 1
abbrev pub number_of : Place → ℕ
number_of place.Season = 1
number_of (place.Player p) = 1 + p
number_of (place.Fixture f) = 601 + f
number_of (place.Key e) = 611 + e
number_of (place.Squad e) = 1
number_of place.League = 2
number_of (place.Join e) = 2
number_of (place.Sheet f) = 1111 + f
number_of place.Again = 1122

abbrev pub step_at : ℕ → Place → Step
step_at seed place = record { caller = caller_of place; moment = moment_of place; number = number_of place; command = command_at seed place }

-- the step of this number, from 0
abbrev pub step_of : ℕ → ℕ → Option Step
step_of seed n = option_map (step_at seed) (place_of n)
