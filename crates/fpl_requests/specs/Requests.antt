-- What is asked by a route, its ids and a body.
use Rattle.std.specs.Prelude.{ℕ, Bool, true, not, ◌==◌, ◌&&◌, List, [], ◌∷◌, length, if◌then◌else◌, Result, Ok, Err, slice_index}
use Rattle.std.specs.List.{list_any}
use Rattle.rule_book.specs.declared.line.Line.{Line}
use Rattle.rule_book.specs.declared.transfers.Swap.{Swap}
use Rattle.season_book.specs.declared.command.Command.{Command}
use Rattle.season_book.specs.declared.command.Command.TheVariants as command
use Rattle.season_book.specs.Commands.{club_ids}
use Rattle.season_book.specs.declared.request.Request.{Request}
use Rattle.season_book.specs.declared.request.Request.TheVariants as request
use Rattle.season_book.specs.declared.request.View.{View}
use Rattle.season_book.specs.declared.request.View.TheVariants as view
use Rattle.season_book.specs.declared.request.Window.TheVariants as window
use Rattle.serde_json.specs.Data.{Data}
use Rattle.fpl_requests.specs.declared.field.FieldName.{FieldName}
use Rattle.fpl_requests.specs.declared.field.FieldName.TheVariants as field
use Rattle.fpl_requests.specs.declared.route.Asks.{Asks}
use Rattle.fpl_requests.specs.declared.route.Asks.TheVariants as asks
use Rattle.fpl_requests.specs.declared.route.CommandRoute.{CommandRoute}
use Rattle.fpl_requests.specs.declared.route.CommandRoute.TheVariants as route
use Rattle.fpl_requests.specs.declared.route.Route.{Route}
use Rattle.fpl_requests.specs.declared.route.ViewRoute.{ViewRoute}
use Rattle.fpl_requests.specs.declared.route.ViewRoute.TheVariants as seen
use Rattle.fpl_requests.specs.Members.{◌>>=◌, chip_in, club_id, code, entry, fixture_id, gameweek, key, kind_in, last_moment, list, moment, object_of, place, player_id, position_in, price, profile_in, title, truth, whole}

-- The parts of commands.

-- a club with its name
abbrev pub club : Data → Result (ℕ × List ℕ) FieldName
club d = club_id field.Id d >>= λ id. title field.Name d >>= λ name. Ok (id, name)

-- no number stands twice
abbrev pub differ : List ℕ → Bool
differ [] = true
differ (x ∷ xs) = not (list_any (λ y. y == x) xs) && differ xs

abbrev pub if_differ : List (ℕ × List ℕ) → Result (List (ℕ × List ℕ)) FieldName
if_differ clubs = if differ (club_ids clubs) then Ok clubs else Err field.Clubs

-- 1 to 20 clubs with different ids
abbrev pub clubs : Data → Result (List (ℕ × List ℕ)) FieldName
clubs d = list field.Clubs 1 20 club d >>= if_differ

-- 1 to 38 moments
abbrev pub deadlines : Data → Result (List ℕ) FieldName
deadlines d = list field.Deadlines 1 38 (entry field.Deadlines 0 last_moment) d

-- 28 figures
abbrev pub line : Data → Result Line FieldName
line d = list field.Figures 28 28 (entry field.Figures 0 65535) d >>= λ figures. Ok (record { figures = figures })

-- a player with his figures
abbrev pub player_line : Data → Result (ℕ × Line) FieldName
player_line d = player_id field.Player d >>= λ player. line d >>= λ figures. Ok (player, figures)

-- at most 100 lines
abbrev pub lines : Data → Result (List (ℕ × Line)) FieldName
lines d = list field.Lines 0 100 player_line d

-- a guest club, which is not the home club
abbrev pub if_guest : ℕ → ℕ → Result ℕ FieldName
if_guest home away = if away == home then Err field.Away else Ok away

abbrev pub guest : ℕ → Data → Result ℕ FieldName
guest home d = club_id field.Away d >>= if_guest home

-- fifteen players, by slot
abbrev pub fifteen : Data → Result (List ℕ) FieldName
fifteen d = list field.Players 15 15 (entry field.Players 1 999999) d

-- who goes, and who comes
abbrev pub swap : Data → Result Swap FieldName
swap d = player_id field.Out d >>= λ out. player_id field.In d >>= λ into. Ok (record { out = out; into = into })

-- 1 to 15 transfers
abbrev pub swaps : Data → Result (List Swap) FieldName
swaps d = list field.Swaps 1 15 swap d

-- at most 64 entries, by their places in a draw
abbrev pub order : Data → Result (List ℕ) FieldName
order d = list field.Order 0 64 (entry field.Order 1 4294967295) d

-- at most 1024 slots of a cup: the numbers of entries, 0 for a bye
abbrev pub slots : Data → Result (List ℕ) FieldName
slots d = list field.Slots 0 1024 (entry field.Slots 0 4294967295) d

-- at most 1024 coins of 0 or 1
abbrev pub coins : Data → Result (List ℕ) FieldName
coins d = list field.Coins 0 1024 (entry field.Coins 0 1) d

-- The commands, each by its members in their order.

abbrev pub season : Data → Result Command FieldName
season d =
    deadlines d >>= λ ms. whole field.Split 0 (length ms) d >>= λ split. clubs d >>= λ cs.
    profile_in field.Profile d >>= λ profile.
    Ok (command.Season profile ms split cs)

abbrev pub deadline : Data → Result Command FieldName
deadline d = gameweek field.Gameweek d >>= λ g. moment field.Deadline d >>= λ m. Ok (command.Deadline g m)

abbrev pub player : Data → Result Command FieldName
player d =
    player_id field.Id d >>= λ id. title field.Name d >>= λ name. position_in field.Position d >>= λ pos.
    club_id field.Club d >>= λ c. price field.Price d >>= λ cost.
    Ok (command.Player id name pos c cost)

abbrev pub new_price : Data → Result Command FieldName
new_price d = player_id field.Player d >>= λ p. price field.Price d >>= λ n. Ok (command.Price p n)

abbrev pub new_club : Data → Result Command FieldName
new_club d = player_id field.Player d >>= λ p. club_id field.Club d >>= λ c. Ok (command.Club p c)

abbrev pub gone : Data → Result Command FieldName
gone d = player_id field.Player d >>= λ p. truth field.Gone d >>= λ is_gone. Ok (command.Gone p is_gone)

abbrev pub fixture : Data → Result Command FieldName
fixture d =
    fixture_id field.Id d >>= λ id. club_id field.Home d >>= λ home. guest home d >>= λ away.
    place field.Gameweek d >>= λ g. moment field.Kickoff d >>= λ kickoff.
    Ok (command.Fixture id home away g kickoff)

abbrev pub move : ℕ → Data → Result Command FieldName
move f d = place field.Gameweek d >>= λ g. moment field.Kickoff d >>= λ kickoff. Ok (command.Move f g kickoff)

abbrev pub amend_player : ℕ → Data → Result Command FieldName
amend_player p d = title field.Name d >>= λ name. position_in field.Position d >>= λ pos. Ok (command.AmendPlayer p name pos)

abbrev pub amend_fixture : ℕ → Data → Result Command FieldName
amend_fixture f d = club_id field.Home d >>= λ home. guest home d >>= λ away. Ok (command.AmendFixture f home away)

abbrev pub sheet : ℕ → Data → Result Command FieldName
sheet f d = lines d >>= λ ls. truth field.Finished d >>= λ finished. Ok (command.Sheet f ls finished)

abbrev pub put : ℕ → Data → Result Command FieldName
put f d = player_line d >>= λ one. Ok (command.Line f one.0 one.1)

abbrev pub drop : ℕ → Data → Result Command FieldName
drop f d = player_id field.Player d >>= λ p. Ok (command.Drop f p)

abbrev pub finish : ℕ → Data → Result Command FieldName
finish f d = truth field.Finished d >>= λ finished. Ok (command.Finished f finished)

abbrev pub new_key : Data → Result Command FieldName
new_key d = key field.Key d >>= λ k. title field.Name d >>= λ name. Ok (command.Key k name)

abbrev pub rekey : ℕ → Data → Result Command FieldName
rekey e d = key field.Key d >>= λ k. title field.Name d >>= λ name. Ok (command.Rekey e k name)

abbrev pub squad : Data → Result Command FieldName
squad d =
    fifteen d >>= λ ps. player_id field.Captain d >>= λ captain. player_id field.Vice d >>= λ vice.
    Ok (command.Squad ps captain vice)

abbrev pub transfers : Data → Result Command FieldName
transfers d = swaps d >>= λ ss. Ok (command.Transfers ss)

abbrev pub lineup : Data → Result Command FieldName
lineup d =
    fifteen d >>= λ ps. player_id field.Captain d >>= λ captain. player_id field.Vice d >>= λ vice.
    Ok (command.Lineup ps captain vice)

abbrev pub play : Data → Result Command FieldName
play d = chip_in field.Chip d >>= λ c. Ok (command.Chip c)

abbrev pub league : Data → Result Command FieldName
league d =
    kind_in field.Kind d >>= λ kind. title field.Name d >>= λ name. code field.Code d >>= λ c.
    gameweek field.Start d >>= λ start.
    Ok (command.League kind name c start)

abbrev pub join : ℕ → Data → Result Command FieldName
join l d = code field.Code d >>= λ c. Ok (command.Join l c)

abbrev pub draw : ℕ → Data → Result Command FieldName
draw l d = order d >>= λ es. Ok (command.Draw l es)

abbrev pub cup : Data → Result Command FieldName
cup d = gameweek field.Start d >>= λ start. slots d >>= λ ss. coins d >>= λ cs. Ok (command.Cup start ss cs)

-- the command of a route at the id of its target, a player, a fixture, an entry or a league, where it has one
abbrev pub command_of : CommandRoute → ℕ → Data → Result Command FieldName
command_of route.Season f d = season d
command_of route.Deadlines f d = deadline d
command_of route.Players f d = player d
command_of route.Prices f d = new_price d
command_of route.Clubs f d = new_club d
command_of route.Gone f d = gone d
command_of route.Fixtures f d = fixture d
command_of route.Move f d = move f d
command_of route.AmendPlayer p d = amend_player p d
command_of route.AmendFixture f d = amend_fixture f d
command_of route.Sheet f d = sheet f d
command_of route.Line f d = put f d
command_of route.Drop f d = drop f d
command_of route.Finished f d = finish f d
command_of route.Keys f d = new_key d
command_of route.Rekey e d = rekey e d
command_of route.Squad f d = squad d
command_of route.Transfers f d = transfers d
command_of route.Lineup f d = lineup d
command_of route.Chip f d = play d
command_of route.CancelChip f d = Ok command.CancelChip
command_of route.Leagues l d = league d
command_of route.Join l d = join l d
command_of route.Draw l d = draw l d
command_of route.Cups l d = cup d

-- The requests.

-- the view of a route, at the ids of its target
abbrev pub view_of : ViewRoute → List ℕ → View
view_of seen.ShowSeason ids = view.Season
view_of seen.ShowMe ids = view.Me
view_of seen.ShowPlayer ids = view.Player (slice_index ids 0)
view_of seen.ShowPlayerGameweek ids = view.PlayerGameweek (slice_index ids 0) (slice_index ids 1)
view_of seen.ShowFixture ids = view.Fixture (slice_index ids 0)
view_of seen.ShowEntryGameweek ids = view.EntryGameweek (slice_index ids 0) (slice_index ids 1)
view_of seen.ShowLeague ids = view.League (slice_index ids 0)
view_of seen.ShowCup ids = view.Cup (slice_index ids 0)
view_of seen.WindowMe ids = view.Window window.Me
view_of seen.WindowEntries ids = view.Window window.Entries
view_of seen.WindowLeagues ids = view.Window window.Leagues
view_of seen.WindowMyLeagues ids = view.Window window.MyLeagues
view_of seen.WindowCups ids = view.Window window.Cups
view_of seen.WindowSheet ids = view.Window (window.Sheet (slice_index ids 0))
view_of seen.WindowEntry ids = view.Window (window.Entry (slice_index ids 0))
view_of seen.WindowLive ids = view.Window (window.Live (slice_index ids 0))
view_of seen.WindowHistory ids = view.Window (window.History (slice_index ids 0))
view_of seen.WindowBootstrap ids = view.Window window.Bootstrap
view_of seen.WindowFixtures ids = view.Window window.Fixtures
view_of seen.WindowElement ids = view.Window (window.Element (slice_index ids 0))
view_of seen.WindowDreamTeam ids = view.Window (window.DreamTeam (slice_index ids 0))
view_of seen.WindowPicks ids = view.Window (window.Picks (slice_index ids 0) (slice_index ids 1))
view_of seen.WindowTransfers ids = view.Window (window.Transfers (slice_index ids 0))
view_of seen.WindowClassicStandings ids = view.Window (window.ClassicStandings (slice_index ids 0))
view_of seen.WindowHeadStandings ids = view.Window (window.HeadStandings (slice_index ids 0))
view_of seen.WindowHeadMatches ids = view.Window (window.HeadMatches (slice_index ids 0))
view_of seen.WindowCup ids = view.Window (window.Cup (slice_index ids 0))

-- the command that a body orders, under its number, which comes first
abbrev pub ordered : CommandRoute → ℕ → List ℕ → Result Request FieldName
ordered which id body =
    object_of body >>= λ d. whole field.Number 1 9223372036854775807 d >>= λ number. command_of which id d >>= λ c.
    Ok (request.Command number c)

-- what is asked: a command, or a view, whatever its body is
abbrev pub asked : Asks → List ℕ → List ℕ → Result Request FieldName
asked (asks.Command which) ids body = ordered which (slice_index ids 0) body
asked (asks.View which) ids body = Ok (request.View (view_of which ids))

abbrev pub request_of : Route → List ℕ → List ℕ → Result Request FieldName
request_of route ids body = asked route.asks ids body
