use Rattle.std.proofs.Common.{◌∙◌, [], ◌∷◌, get_or, ◌++◌, ◌<◌, ◌≤◌, length, take, ap, sym, arith, rules}
use Rattle.std.proofs.lemmas.List.{length-take-le, take_more}
use Rattle.leagues_and_cups.specs.Places.{of_entry, places_of}
use Rattle.leagues_and_cups.proofs.PlaceFacts.{places_more}
use Rattle.leagues_and_cups.proofs.drawn.index_of.Goals as goal

pub loop-place-preserved : goal.loop-place-preserved
loop-place-preserved c =
    let slots = c.args.slots.now in
    let n = c.loop-place.place in
    let slot = get_or slots n 0 in
    let lt : n < length slots = search rules in
    let le : n ≤ length slots = omega (arith, lt) in
    record {
      ascend = c.in_ok-put_row.ensures.ascend;
      same = λ e.
          c.in_ok-put_row.ensures.put e
          ∙ ap (λ l. l ++ of_entry e ((slot, n) ∷ [])) (c.loop-place.invariant.same e)
          ∙ sym (places_more (take n slots) slot n e (length-take-le n slots le))
          ∙ ap (λ l. places_of l e) (sym (take_more slots n 0 lt));
    }
