-- Picks that pass the tests are different players at prices that can be.
use Rattle.std.proofs.Common.{◌≡◌, ◌≢◌, ℕ, zero, suc, true, false, not, eqb, List, [], ◌∷◌, map, arith, refl, sym, ap}
use Rattle.std.specs.List.{AllByRecursion as Each, All, list_any}
use Rattle.std.proofs.lemmas.Bool.{and_parts, not-true, or_parts, eqb-false}
use Rattle.std.proofs.lemmas.Bool.Decides.{nat_tests}
use Rattle.std.proofs.lemmas.List.Kept.{AllPairs-cons}
use Rattle.fpl_base.specs.declared.kinds.Position.{Position}
use Rattle.record_fields.specs.Ranges.{is_between}
use Rattle.rule_book.specs.declared.team.Pick.{Pick}
use Rattle.rule_book.specs.Batch.{AreDifferent}
use Rattle.rule_book.specs.EntryRecords.{IsPriced}
use Rattle.rule_book.specs.HistoryTeam.{holdings}
use Rattle.stored_records.specs.Sequels.{holdings_told}
use Rattle.store_validation.specs.TeamRules.{is_distinct, is_priced}

-- picks of numbers, each player at his position
abbrev pub picks_at : (ℕ → Position) → List (ℕ × ℕ) → List Pick
picks_at position picks = map (λ pick. record { player = pick.0; position = position pick.0; bought = pick.1 }) picks

pub holdings_at : (position : ℕ → Position) (picks : List (ℕ × ℕ)) → holdings (picks_at position picks) ≡ holdings_told picks
holdings_at position [] = refl
holdings_at position (pick ∷ picks) = ap (λ more. record { player = pick.0; bought = pick.1 } ∷ more) (holdings_at position picks)

none_of : (position : ℕ → Position) (p : ℕ) (picks : List (ℕ × ℕ)) → list_any (λ y. eqb y p) (map (λ pick. pick.0) picks) ≡ false
    → Each (λ (other : Pick). p ≢ other.player) (picks_at position picks)
none_of position p [] e = tt
none_of position p (pick ∷ picks) e =
    let parts = or_parts (eqb pick.0 p) (list_any (λ y. eqb y p) (map (λ pick. pick.0) picks)) e in
    (λ same. eqb-false pick.0 p parts.0 (sym same), none_of position p picks parts.1)

all_each : (P : Pick → Type 0) (picks : List Pick) → Each P picks → All P picks
all_each P [] each i d inside = absurd (omega arith)
all_each P (x ∷ xs) each zero d inside = each.0
all_each P (x ∷ xs) each (suc i) d inside = all_each P xs each.1 i d (omega arith)

-- no player stands twice
pub different_from : (position : ℕ → Position) (picks : List (ℕ × ℕ)) → is_distinct picks ≡ true → AreDifferent (picks_at position picks)
different_from position [] e = λ i j d less inside. absurd (omega arith)
different_from position (pick ∷ picks) e =
    let parts = and_parts (not (list_any (λ y. eqb y pick.0) (map (λ pick. pick.0) picks))) (is_distinct picks) e in
    AllPairs-cons (λ (one : Pick) (other : Pick). one.player ≢ other.player) _ (picks_at position picks)
    (all_each (λ (other : Pick). pick.0 ≢ other.player) (picks_at position picks) (none_of position pick.0 picks (not-true _ parts.0)))
    (different_from position picks parts.1)

-- each was bought at a price that can be
pub priced_from : (picks : List (ℕ × ℕ)) → is_priced picks ≡ true → Each IsPriced (holdings_told picks)
priced_from [] e = tt
priced_from (pick ∷ picks) e =
    let parts = and_parts (is_between 30 200 pick.1) (is_priced picks) e in
    ((grind (arith, nat_tests, parts.0), grind (arith, nat_tests, parts.0)), priced_from picks parts.1)
