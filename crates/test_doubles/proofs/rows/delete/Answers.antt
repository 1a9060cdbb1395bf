use Rattle.std.proofs.Common.{◌∙◌, ap, sym, subst, refl}
use Rattle.fpl_base.specs.Keeping.{map_of, KeysRise}
use Rattle.fpl_base.proofs.RowLemmas.{removed_is, removed_rises, absent_is}
use Rattle.test_doubles.proofs.rows.delete.Goals as goal

pub returns-then-stands_at-clause-map : goal.returns-then-stands_at-clause-map
returns-then-stands_at-clause-map c =
    let place = rw c.deref.ensures.value at c.place_of-at.ensures in
    let there = rw c.deref-2.ensures.value at (c.if-stands_at.ensures.there refl) in
    ap map_of c.remove.ensures.by_index.2 ∙ removed_is c.args.rows.now.items c.args.key c.place_of-at.result c.requires.rise place there.0 there.1

pub returns-then-stands_at-clause-rise : goal.returns-then-stands_at-clause-rise
returns-then-stands_at-clause-rise c =
    let place = rw c.deref.ensures.value at c.place_of-at.ensures in
    let there = rw c.deref-2.ensures.value at (c.if-stands_at.ensures.there refl) in
    subst KeysRise (sym c.remove.ensures.by_index.2) (removed_rises c.args.rows.now.items c.args.key c.place_of-at.result c.requires.rise place there.0 there.1)

pub returns-else-stands_at-clause-map : goal.returns-else-stands_at-clause-map
returns-else-stands_at-clause-map c =
    let place = rw c.deref.ensures.value at c.place_of-at.ensures in
    let away = rw c.deref-2.ensures.value at (c.if-stands_at.ensures.away refl) in
    absent_is c.args.rows.now.items c.args.key c.place_of-at.result c.requires.rise place away
