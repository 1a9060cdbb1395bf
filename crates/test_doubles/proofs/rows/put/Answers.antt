use Rattle.std.proofs.Common.{◌∙◌, ap, sym, subst, cond, refl}
use Rattle.std.specs.Prelude.{IsOk}
use Rattle.std.specs.List.{insert}
use Rattle.fpl_base.specs.Keeping.{map_of, KeysRise}
use Rattle.fpl_base.proofs.RowLemmas.{replaced_is, replaced_rises, inserted_is, inserted_rises}
use Rattle.test_doubles.proofs.rows.put.Goals as goal

pub returns-then-stands_at-clause-map : goal.returns-then-stands_at-clause-map
returns-then-stands_at-clause-map c =
    let place = rw c.deref.ensures.value at c.place_of-at.ensures in
    let there = rw c.deref-2.ensures.value at (c.if-stands_at.ensures.there refl) in
    replaced_is c.args.rows.now.items c.args.key c.place_of-at.result c.requires.rise place there.0 there.1 c.args.body

pub returns-then-stands_at-clause-rise : goal.returns-then-stands_at-clause-rise
returns-then-stands_at-clause-rise c =
    let place = rw c.deref.ensures.value at c.place_of-at.ensures in
    let there = rw c.deref-2.ensures.value at (c.if-stands_at.ensures.there refl) in
    replaced_rises c.args.rows.now.items c.args.key c.place_of-at.result c.requires.rise place there.0 there.1 c.args.body

pub returns-else-stands_at-clause-map : goal.returns-else-stands_at-clause-map
returns-else-stands_at-clause-map c =
    let place = rw c.deref.ensures.value at c.place_of-at.ensures in
    let away = rw c.deref-2.ensures.value at (c.if-stands_at.ensures.away refl) in
    let fits : IsOk c.insert.result = c.insert.ensures.succeeds c.requires.room in
    let new = insert c.args.rows.now.items c.place_of-at.result (c.args.key, c.args.body) in
    let is = c.insert.ensures.items ∙ ap (λ b. cond b new c.args.rows.now.items) fits in
    ap map_of is ∙ inserted_is c.args.rows.now.items c.args.key c.place_of-at.result c.requires.rise place away c.args.body

pub returns-else-stands_at-clause-rise : goal.returns-else-stands_at-clause-rise
returns-else-stands_at-clause-rise c =
    let place = rw c.deref.ensures.value at c.place_of-at.ensures in
    let away = rw c.deref-2.ensures.value at (c.if-stands_at.ensures.away refl) in
    let fits : IsOk c.insert.result = c.insert.ensures.succeeds c.requires.room in
    let new = insert c.args.rows.now.items c.place_of-at.result (c.args.key, c.args.body) in
    let is = c.insert.ensures.items ∙ ap (λ b. cond b new c.args.rows.now.items) fits in
    subst KeysRise (sym is) (inserted_rises c.args.rows.now.items c.args.key c.place_of-at.result c.requires.rise place away c.args.body)
