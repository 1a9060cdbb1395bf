use Rattle.std.proofs.Common.{◌≡◌, ◌∙◌, ℕ, List, Some, None, length, map, arith, sym}
use Rattle.std.specs.List.{slice_get}
use Rattle.rule_book.specs.declared.player.Player.{Player}
use Rattle.season_running.specs.Standing.{players_in}
use Rattle.fpl_dreaming.proofs.FirstPlayers.{all_first, few, id_at, none_first, one_first, rise}
use Rattle.fpl_dreaming.proofs.dreaming.players_of.Goals as goal

pub loop-player-init : goal.loop-player-init
loop-player-init c = none_first (map (λ (player : Player). player.id) (players_in c.args.host.now.rows.facts)) c.new-players.result.items c.new-players.ensures.items

pub loop-player-preserved : goal.loop-player-preserved
loop-player-preserved c =
    let players = players_in c.args.host.now.rows.facts in
    let ids : List ℕ = map (λ (player : Player). player.id) players in
    let place : ℕ = c.len.result in
    let behind : place ≡ length c.loop-player.players.items = omega (arith, c.len.ensures, c.loop-player.players.ok.0) in
    let found : slice_get ids place ≡ Some c.in-Some.player = id_at players place ∙ sym c.in-Some.ensures in
    one_first ids c.loop-player.players.items c.push.new.self.items place c.in-Some.player behind found c.in_ok-push.ensures.items c.loop-player.invariant

pub returns-clause-value : goal.returns-clause-value
returns-clause-value c =
    let players = players_in c.args.host.now.rows.facts in
    let ids : List ℕ = map (λ (player : Player). player.id) players in
    let place : ℕ = c.len.result in
    let behind : place ≡ length c.loop-player.players.items = omega (arith, c.len.ensures, c.loop-player.players.ok.0) in
    let none : slice_get ids place ≡ None = id_at players place ∙ sym c.in_default.ensures in
    all_first ids c.loop-player.players.items place behind none c.loop-player.invariant

pub returns-clause-rise : goal.returns-clause-rise
returns-clause-rise c =
    let players = players_in c.args.host.now.rows.facts in
    let ids : List ℕ = map (λ (player : Player). player.id) players in
    let place : ℕ = c.len.result in
    let behind : place ≡ length c.loop-player.players.items = omega (arith, c.len.ensures, c.loop-player.players.ok.0) in
    let none : slice_get ids place ≡ None = id_at players place ∙ sym c.in_default.ensures in
    rise c.args.host.now.rows c.loop-player.players.items c.keeps_order.ensures (all_first ids c.loop-player.players.items place behind none c.loop-player.invariant)

pub returns-clause-few : goal.returns-clause-few
returns-clause-few c =
    let players = players_in c.args.host.now.rows.facts in
    let ids : List ℕ = map (λ (player : Player). player.id) players in
    let place : ℕ = c.len.result in
    let behind : place ≡ length c.loop-player.players.items = omega (arith, c.len.ensures, c.loop-player.players.ok.0) in
    let none : slice_get ids place ≡ None = id_at players place ∙ sym c.in_default.ensures in
    few c.args.host.now.rows c.loop-player.players.items c.keeps_order.ensures (all_first ids c.loop-player.players.items place behind none c.loop-player.invariant)
