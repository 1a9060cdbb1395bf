use Rattle.std.proofs.Common.{Some, ap, arith, eqb, length, sym, take, ◌∙◌}
use Rattle.std.specs.List.{list_any, slice_index}
use Rattle.std.specs.Option.{option_map}
use Rattle.std.proofs.lemmas.List.{get_or_read}
use Rattle.rule_book.specs.Repeats.{is_repeat}
use Rattle.squad_rules.proofs.Repeats.{find_in_range, find_in_no_range}
use Rattle.squad_rules.proofs.squad.first_repeat.Goals as goal

pub returns-then-contains : goal.returns-then-contains
returns-then-contains c =
    let xs = c.args.players.now in
    let i = c.loop-place.place in
    let read = get_or_read xs i c.index-players-place.result (omega arith) c.index-players-place.is 0 in
    let repeats = ap (λ v. list_any (λ y. eqb y v) (take i xs)) (sym read) ∙ sym c.contains.ensures.value ∙ c.if-contains.true in
    let found = find_in_range (is_repeat xs) 0 (length xs) i (omega arith) (omega arith) (λ k from to. c.loop-place.invariant k to) repeats in
    sym (ap (option_map (slice_index xs)) found ∙ ap Some (sym read))

pub returns : goal.returns
returns c =
    let xs = c.args.players.now in
    let none = find_in_no_range (is_repeat xs) 0 (length xs) (λ k from to. c.loop-place.invariant k (omega arith)) in
    sym (ap (option_map (slice_index xs)) none)
