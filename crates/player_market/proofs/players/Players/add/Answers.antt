use Rattle.std.proofs.Common.{◌≡◌, ◌<◌, ◌∙◌, length, map, true, sym, subst, rules}
use Rattle.std.specs.Result.{is_ok}
use Rattle.std.proofs.lemmas.List.{length-map}
use Rattle.rule_book.specs.Players.{ArePlayers, most_players}
use Rattle.player_market.specs.Places.{IsPlaceFor}
use Rattle.player_market.proofs.PlaceLemmas.{insert_at, are_players_insert}
use Rattle.player_market.proofs.RowLemmas.{row_inserted}
use Rattle.player_market.proofs.players.Players.add.Goals as goal

pub invariant_of-self-2 : goal.invariant_of-self-2
invariant_of-self-2 c =
    let players = map (λ row. row.value) c.self.inside.rows.items in
    let place : IsPlaceFor players c.args.player.id c.in-Ok.place = rw c.self.view_is c.in-Ok.ensures.place in
    let put : is_ok c.insert.result ≡ true = search rules in
    let as_many = length-map c.self.inside.rows.items (λ row. row.value) in
    let room : length players < most_players = search (rules, as_many) in
    rw (c.insert.ensures.items, put) (subst ArePlayers (sym (row_inserted (λ row. row.value) c.self.inside.rows.items c.in-Ok.place c.in-Ok-new.row c.args.player c.in-Ok-new.ensures.ok)) (are_players_insert players c.args.player c.in-Ok.place place c.self.invariant room (search rules)))

pub returns-clause-ok : goal.returns-clause-ok
returns-clause-ok c =
    let players = map (λ row. row.value) c.self.inside.rows.items in
    let place : IsPlaceFor players c.args.player.id c.in-Ok.place = rw c.self.view_is c.in-Ok.ensures.place in
    let put : is_ok c.insert.result ≡ true = search rules in
    rw (c.insert.ensures.items, put, ← c.self.view_is) (row_inserted (λ row. row.value) c.self.inside.rows.items c.in-Ok.place c.in-Ok-new.row c.args.player c.in-Ok-new.ensures.ok ∙ insert_at players c.args.player c.in-Ok.place place)
