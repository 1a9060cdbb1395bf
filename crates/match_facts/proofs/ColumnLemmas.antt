-- What a search finds in a sheet's columns, and what an edit at that place does to its lines.
use Rattle.std.proofs.Common.{ℕ, zero, suc, ◌+◌, ◌-◌, ◌≡◌, ◌<◌, ◌≤◌, List, [], ◌∷◌, Some, None, Result, Ok, Err, length, get_or, set, arith, refl, sym, ap, subst, ◌∙◌}
use Rattle.std.specs.List.{zip, insert, remove}
use Rattle.std.specs.List.Sorted.{IsSearchInRange, IsBinarySearchResult, IsNonDecreasingBy}
use Rattle.std.specs.Ordering.{nat_cmp, ordering_index}
use Rattle.std.proofs.lemmas.Cmp.{ranked}
use Rattle.std.proofs.lemmas.Bool.Decides.{nat_tests}
use Rattle.std.proofs.lemmas.List.Sorted.{IsNonDecreasingBy-from_default}
use Rattle.std.proofs.lemmas.List.Edits.{length-insert, get_or-insert_below, get_or-insert_at, get_or-insert_above, length-remove, get_or-remove_below, get_or-remove_above}
use Rattle.std.proofs.lemmas.Slice.Zip.{length-zip}
use Rattle.rule_book.specs.declared.line.Line.{Line}
use Rattle.rule_book.specs.MatchFacts.{with_line}
use Rattle.rule_book.specs.ById.{at_id, placed_at}
use Rattle.match_facts.specs.Columns.{AreColumns, IsAscending, IsPlace, IsGap, IsSought}
use Rattle.rule_book.proofs.Placed.{AllAbove, placed_before, placed_here, placed_past}

module _ (ps : List ℕ) (ascending : IsAscending ps) (p : ℕ) where
  -- the comparisons rise along the list, as a binary search asks
  comparisons_rise : IsNonDecreasingBy (λ q. ordering_index (nat_cmp q p)) ps
  comparisons_rise = IsNonDecreasingBy-from_default (λ q. ordering_index (nat_cmp q p)) ps 0 (λ i j le within.
      let rise : get_or ps i 0 ≤ get_or ps j 0 = grind (arith, ascending i j, λ (same : i ≡ j). ap (λ k. get_or ps k 0) same) in
      grind (arith, nat_tests))

  -- a binary search ends at the player, or at the gap for him
  pub searched : (r : Result ℕ ℕ) → IsSearchInRange r (length ps) → IsBinarySearchResult (λ q. nat_cmp q p) ps r → IsSought ps p r
  searched (Ok at) within equal = record { within = within; here = ranked _ p _ (sym (equal 0)) }
  searched (Err at) within parted = record {
    within = within;
    smaller = λ j lt. ranked _ p _ (sym ((parted comparisons_rise).0 j 0 (omega arith) lt));
    greater = λ j le lt. ranked _ p _ (sym ((parted comparisons_rise).1 j 0 le lt));
  }

ascending_tail : (q : ℕ) (ps : List ℕ) → IsAscending (q ∷ ps) → IsAscending ps
ascending_tail q ps ascending i j lt within = ascending (suc i) (suc j) (omega arith) (omega arith)

gap_tail : (q : ℕ) (ps : List ℕ) (p i : ℕ) → IsGap (q ∷ ps) p (suc i) → IsGap ps p i
gap_tail q ps p i gap = record {
  within = omega (arith, gap.within);
  smaller = λ j lt. gap.smaller (suc j) (omega arith);
  greater = λ j le lt. gap.greater (suc j) (omega arith) (omega arith);
}

place_tail : (q : ℕ) (ps : List ℕ) (p i : ℕ) → IsPlace (q ∷ ps) p (suc i) → IsPlace ps p i
place_tail q ps p i place = record { within = omega (arith, place.within); here = place.here }

module _ {X : Type 0} where
  all_above : (k : ℕ) (ps : List ℕ) (ls : List X) → ((j : ℕ) → j < length ps → k < get_or ps j 0) → AllAbove k (zip ps ls)
  all_above k [] ls above = tt
  all_above k (q ∷ ps) [] above = tt
  all_above k (q ∷ ps) (l ∷ ls) above = (above 0 (omega arith), all_above k ps ls (λ j lt. above (suc j) (omega arith)))

  -- the line of a player at his place
  pub line_here : (ps : List ℕ) (ls : List X) (p i : ℕ) (d : X) → IsAscending ps → length ls ≡ length ps → IsPlace ps p i → at_id (zip ps ls) p ≡ Some (get_or ls i d)
  line_here [] ls p i d ascending paired place = absurd (omega (arith, place.within))
  line_here (q ∷ ps) [] p i d ascending paired place = absurd (omega arith)
  line_here (q ∷ ps) (l ∷ ls) p zero d ascending paired place = grind (arith, nat_tests, place.here)
  line_here (q ∷ ps) (l ∷ ls) p (suc i) d ascending paired place =
      let later = place_tail q ps p i place in
      let more = line_here ps ls p i d (ascending_tail q ps ascending) (omega arith) later in
      grind (arith, nat_tests, more, ascending 0 (suc i) (omega arith) place.within, place.here)

  -- none in the gap
  pub none_here : (ps : List ℕ) (ls : List X) (p i : ℕ) → IsGap ps p i → at_id (zip ps ls) p ≡ None
  none_here [] ls p i gap = refl
  none_here (q ∷ ps) [] p i gap = refl
  none_here (q ∷ ps) (l ∷ ls) p zero gap =
      let later : IsGap ps p 0 = record { within = omega arith; smaller = λ j lt. absurd (omega arith); greater = λ j le lt. gap.greater (suc j) (omega arith) (omega arith) } in
      grind (arith, nat_tests, none_here ps ls p 0 later, gap.greater 0 (omega arith) (omega arith))
  none_here (q ∷ ps) (l ∷ ls) p (suc i) gap =
      grind (arith, nat_tests, none_here ps ls p i (gap_tail q ps p i gap), gap.smaller 0 (omega arith))

  -- a line written over that of its player
  pub zip-set : (ps : List ℕ) (ls : List X) (p i : ℕ) (l : X) → IsAscending ps → length ls ≡ length ps → IsPlace ps p i → zip ps (set ls i l) ≡ placed_at (zip ps ls) p ((p, l) ∷ [])
  zip-set [] ls p i l ascending paired place = absurd (omega (arith, place.within))
  zip-set (q ∷ ps) [] p i l ascending paired place = absurd (omega arith)
  zip-set (q ∷ ps) (m ∷ ls) p zero l ascending paired place =
      let above = all_above p ps ls (λ j lt. omega (arith, place.here, ascending 0 (suc j) (omega arith) (omega arith))) in
      ap (λ r. (r, l) ∷ zip ps ls) place.here ∙ sym (placed_here p (q, m) (zip ps ls) ((p, l) ∷ []) place.here above)
  zip-set (q ∷ ps) (m ∷ ls) p (suc i) l ascending paired place =
      let more = zip-set ps ls p i l (ascending_tail q ps ascending) (omega arith) (place_tail q ps p i place) in
      let past : q < p = omega (arith, ascending 0 (suc i) (omega arith) place.within, place.here) in
      ap (λ rows. (q, m) ∷ rows) more ∙ sym (placed_past p (q, m) (zip ps ls) ((p, l) ∷ []) past)

  -- a line put into the gap
  pub zip-insert : (ps : List ℕ) (ls : List X) (p i : ℕ) (l : X) → length ls ≡ length ps → IsGap ps p i → zip (insert ps i p) (insert ls i l) ≡ placed_at (zip ps ls) p ((p, l) ∷ [])
  zip-insert ps ls p zero l paired gap = sym (placed_before p (zip ps ls) ((p, l) ∷ []) (all_above p ps ls (λ j lt. gap.greater j (omega arith) lt)))
  zip-insert [] ls p (suc i) l paired gap = absurd (omega (arith, gap.within))
  zip-insert (q ∷ ps) [] p (suc i) l paired gap = absurd (omega arith)
  zip-insert (q ∷ ps) (m ∷ ls) p (suc i) l paired gap =
      let more = zip-insert ps ls p i l (omega arith) (gap_tail q ps p i gap) in
      ap (λ rows. (q, m) ∷ rows) more ∙ sym (placed_past p (q, m) (zip ps ls) ((p, l) ∷ []) (gap.smaller 0 (omega arith)))

  -- a player taken away
  pub zip-remove : (ps : List ℕ) (ls : List X) (p i : ℕ) → IsAscending ps → length ls ≡ length ps → IsPlace ps p i → zip (remove ps i) (remove ls i) ≡ placed_at (zip ps ls) p []
  zip-remove [] ls p i ascending paired place = absurd (omega (arith, place.within))
  zip-remove (q ∷ ps) [] p i ascending paired place = absurd (omega arith)
  zip-remove (q ∷ ps) (m ∷ ls) p zero ascending paired place =
      let above = all_above p ps ls (λ j lt. omega (arith, place.here, ascending 0 (suc j) (omega arith) (omega arith))) in
      sym (placed_here p (q, m) (zip ps ls) [] place.here above)
  zip-remove (q ∷ ps) (m ∷ ls) p (suc i) ascending paired place =
      let more = zip-remove ps ls p i (ascending_tail q ps ascending) (omega arith) (place_tail q ps p i place) in
      let past : q < p = omega (arith, ascending 0 (suc i) (omega arith) place.within, place.here) in
      ap (λ rows. (q, m) ∷ rows) more ∙ sym (placed_past p (q, m) (zip ps ls) [] past)

  -- and where he is not there
  pub zip-gap : (ps : List ℕ) (ls : List X) (p i : ℕ) → length ls ≡ length ps → IsGap ps p i → zip ps ls ≡ placed_at (zip ps ls) p []
  zip-gap ps ls p zero paired gap = sym (placed_before p (zip ps ls) [] (all_above p ps ls (λ j lt. gap.greater j (omega arith) lt)))
  zip-gap [] ls p (suc i) paired gap = absurd (omega (arith, gap.within))
  zip-gap (q ∷ ps) [] p (suc i) paired gap = absurd (omega arith)
  zip-gap (q ∷ ps) (m ∷ ls) p (suc i) paired gap =
      let more = zip-gap ps ls p i (omega arith) (gap_tail q ps p i gap) in
      ap (λ rows. (q, m) ∷ rows) more ∙ sym (placed_past p (q, m) (zip ps ls) [] (gap.smaller 0 (omega arith)))

-- the players still ascend
pub ascending-insert : (ps : List ℕ) (p i : ℕ) → IsGap ps p i → IsAscending ps → IsAscending (insert ps i p)
ascending-insert ps p at gap ascending i j lt within =
    let new = insert ps at p in
    let length_new = length-insert ps at p gap.within in
    let below : (i : ℕ) → i < at → get_or new i 0 ≡ get_or ps i 0 = λ i below. get_or-insert_below ps at p 0 i below gap.within in
    let here : (i : ℕ) → i ≡ at → get_or new i 0 ≡ p = λ i here. rw here (get_or-insert_at ps at p 0 gap.within) in
    let above : (i : ℕ) → at < i → get_or new i 0 ≡ get_or ps (i - 1) 0 = λ i above. subst (λ q. get_or new q 0 ≡ get_or ps (i - 1) 0) {x = i - 1 + 1} (omega arith) (get_or-insert_above ps at p 0 (i - 1) (omega arith) gap.within) in
    grind (arith, below i, here i, above i, below j, here j, above j, ascending i j, ascending i (j - 1), ascending (i - 1) (j - 1), gap.smaller i, gap.greater (j - 1))

pub ascending-remove : (ps : List ℕ) (at : ℕ) → at < length ps → IsAscending ps → IsAscending (remove ps at)
ascending-remove ps at inside ascending i j lt within =
    let new = remove ps at in
    let length_new = length-remove ps at inside in
    let below : (i : ℕ) → i < at → get_or new i 0 ≡ get_or ps i 0 = λ i below. get_or-remove_below ps at 0 i below inside in
    let above : (i : ℕ) → at ≤ i → get_or new i 0 ≡ get_or ps (i + 1) 0 = λ i above. get_or-remove_above ps at 0 i above inside in
    grind (arith, below i, above i, below j, above j, ascending i j, ascending i (j + 1), ascending (i + 1) (j + 1))

pub columns-insert : (ps : List ℕ) (ls : List Line) (p i : ℕ) (l : Line) → AreColumns ps ls → IsGap ps p i → length (with_line (zip ps ls) p l) ≤ 64 → AreColumns (insert ps i p) (insert ls i l)
columns-insert ps ls p i l columns gap room =
    let longer = length-insert ps i p gap.within in
    let as_long : length (insert ls i l) ≡ length (insert ps i p) = omega (arith, length-insert ls i l (omega (arith, gap.within, columns.paired)), columns.paired) in
    let all : length (zip (insert ps i p) (insert ls i l)) ≤ 64 = rw (zip-insert ps ls p i l columns.paired gap) room in
    record {
      ascending = ascending-insert ps p i gap columns.ascending;
      paired = as_long;
      few = omega (arith, length-zip (insert ps i p) (insert ls i l));
    }

pub columns-remove : (ps : List ℕ) (ls : List Line) (p i : ℕ) → AreColumns ps ls → IsPlace ps p i → AreColumns (remove ps i) (remove ls i)
columns-remove ps ls p i columns place =
    let shorter = length-remove ps i place.within in
    record {
      ascending = ascending-remove ps i place.within columns.ascending;
      paired = omega (arith, length-remove ls i (omega (arith, place.within, columns.paired)), columns.paired);
      few = omega (arith, columns.few);
    }

pub no_columns : AreColumns [] []
no_columns = record { ascending = λ i j lt within. absurd (omega arith); paired = refl; few = omega arith }

-- a line that replaces one takes no room
pub length-here : (ps : List ℕ) (ls : List Line) (p i : ℕ) (l : Line) → AreColumns ps ls → IsPlace ps p i → length (with_line (zip ps ls) p l) ≤ 64
length-here ps ls p i l columns place =
    rw (← zip-set ps ls p i l columns.ascending columns.paired place) (omega (arith, length-zip ps (set ls i l), columns.few))

-- a new one does
pub length-gap : (ps : List ℕ) (ls : List Line) (p i : ℕ) (l : Line) → AreColumns ps ls → IsGap ps p i → length (with_line (zip ps ls) p l) ≡ length ps + 1
length-gap ps ls p i l columns gap =
    rw (← zip-insert ps ls p i l columns.paired gap)
    (omega (arith, length-zip (insert ps i p) (insert ls i l), length-insert ps i p gap.within, length-insert ls i l (omega (arith, gap.within, columns.paired)), columns.paired))
