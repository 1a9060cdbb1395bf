use Rattle.std.proofs.Common.{◌≡◌, ◌∙◌, length, map, ap, sym, rules}
use Rattle.std.proofs.lemmas.List.{length-map}
use Rattle.player_market.proofs.PlaceLemmas.{player_at, player_nowhere}
use Rattle.player_market.proofs.PriceRefusalLemmas.{by_price, full, there}
use Rattle.player_market.proofs.players.Players.place_of_new.Goals as goal

pub returns-in-Ok-clause-judged : goal.returns-in-Ok-clause-judged
returns-in-Ok-clause-judged c = λ new same_id same_price.
    let players = map (λ row. row.value) c.self.inside.rows.items in
    let stands = rw (← c.self.view_is) at c.in-Ok.ensures.found in
    rw (← c.self.view_is)
    (there players c.args.id c.args.price new same_id same_price _ (sym (player_at players c.args.id c.in-Ok.field-0 new c.self.invariant.ascending stands.within stands.has_id)))

pub returns-then-not-has_room-clause-judged : goal.returns-then-not-has_room-clause-judged
returns-then-not-has_room-clause-judged c = λ new same_id same_price.
    let as_many : length c.args.self.now ≡ length c.self.inside.rows.items = ap length (sym c.self.view_is) ∙ length-map c.self.inside.rows.items (λ row. row.value) in
    full c.args.self.now c.args.id c.args.price new same_id same_price (player_nowhere c.args.self.now c.args.id c.in-Err.place c.in-Err.ensures.absent) (search (rules, as_many))

pub returns-in-Err-judge_price-clause-judged : goal.returns-in-Err-judge_price-clause-judged
returns-in-Err-judge_price-clause-judged c = λ new same_id same_price.
    let as_many : length c.args.self.now ≡ length c.self.inside.rows.items = ap length (sym c.self.view_is) ∙ length-map c.self.inside.rows.items (λ row. row.value) in
    by_price c.args.self.now c.args.id c.args.price new same_id same_price (player_nowhere c.args.self.now c.args.id c.in-Err.place c.in-Err.ensures.absent) (search (rules, as_many))
    ∙ c.in-Err-judge_price.ensures.judged

pub returns-in-Ok-judge_price-clause-judged : goal.returns-in-Ok-judge_price-clause-judged
returns-in-Ok-judge_price-clause-judged c = λ new same_id same_price.
    let as_many : length c.args.self.now ≡ length c.self.inside.rows.items = ap length (sym c.self.view_is) ∙ length-map c.self.inside.rows.items (λ row. row.value) in
    by_price c.args.self.now c.args.id c.args.price new same_id same_price (player_nowhere c.args.self.now c.args.id c.in-Err.place c.in-Err.ensures.absent) (search (rules, as_many))
    ∙ c.in-Ok-judge_price.ensures.judged
