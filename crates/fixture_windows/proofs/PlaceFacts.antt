-- A player sought among those who have a line.
use Rattle.std.proofs.Common.{◌≡◌, ◌∙◌, sym, ap, ℕ, zero, suc, ◌+◌, ◌<◌, ◌≤◌, ◌==◌, true, false, cond, List, [], ◌∷◌, Some, None, arith, drop, get_or, length, slice_get, zip}
use Rattle.std.proofs.lemmas.List.{at_drop_all}
use Rattle.rule_book.specs.declared.line.Line.{Line}
use Rattle.rule_book.specs.ById.{at_id}

-- one who is another is passed
pub passed : (players : List ℕ) (lines : List Line) (i p x : ℕ) → length lines ≡ length players → i < length players → x ≡ get_or players i x → (x == p) ≡ false
    → at_id (zip (drop (i + 1) players) (drop (i + 1) lines)) p ≡ at_id (zip (drop i players) (drop i lines)) p
passed [] lines i p x same within is fails = absurd (omega (arith, within))
passed (k ∷ players) [] i p x same within is fails = absurd (omega (arith, same))
passed (k ∷ players) (line ∷ lines) zero p x same within is fails =
    sym (ap (λ b. cond b (Some line) (at_id (zip players lines) p)) (ap (λ n. n == p) (sym is) ∙ fails))
passed (k ∷ players) (line ∷ lines) (suc i) p x same within is fails =
    let next : suc i + 1 ≡ suc (i + 1) = omega arith in
    rw next (passed players lines i p x (omega (arith, same)) (omega (arith, within)) is fails)

-- the line of one who is found stands beside him
pub found : (players : List ℕ) (lines : List Line) (i p x : ℕ) → length lines ≡ length players → i < length players → x ≡ get_or players i x → (x == p) ≡ true → slice_get lines i ≡ at_id (zip (drop i players) (drop i lines)) p
found [] lines i p x same within is holds = absurd (omega (arith, within))
found (k ∷ players) [] i p x same within is holds = absurd (omega (arith, same))
found (k ∷ players) (line ∷ lines) zero p x same within is holds =
    sym (ap (λ b. cond b (Some line) (at_id (zip players lines) p)) (ap (λ n. n == p) (sym is) ∙ holds))
found (k ∷ players) (line ∷ lines) (suc i) p x same within is holds =
    found players lines i p x (omega (arith, same)) (omega (arith, within)) is holds

-- behind the last there is nobody
pub nobody : (players : List ℕ) (lines : List Line) (i p : ℕ) → length players ≤ i → at_id (zip (drop i players) (drop i lines)) p ≡ None
nobody players lines i p past = at_drop_all (λ ps. at_id (zip ps (drop i lines)) p) players i past
