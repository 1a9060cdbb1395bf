-- So many leagues that are there are no more than records stand before the next.
use Rattle.std.proofs.Common.{◌≡◌, ◌<◌, ◌≤◌, ◌+◌, ℕ, true, false, ◌&&◌, ◌||◌, eqb, ap, arith}
use Rattle.std.proofs.lemmas.Bool.{lt-ltb}
use Rattle.std.proofs.lemmas.Bool.Decides.{nat_tests}
use Rattle.fpl_base.specs.Keeping.{map_of, precedes}
use Rattle.season_records.specs.Keys.{key_of}
use Rattle.season_records.specs.declared.slot.Slot.TheVariants as slot
use Rattle.stored_records.specs.Stored.{Rows, between, is_there}
use Rattle.season_restoring.proofs.LawfulRows.{some_there}
use Rattle.season_restoring.proofs.NumberedKeys as numbered

league_precedes : (i l : ℕ) → i < l → precedes (key_of (slot.League i)) (key_of (slot.League l)) ≡ true
league_precedes i l less = ap (λ b. b || ((eqb i l) && false)) (lt-ltb i l less)

league_stays : (i l : ℕ) → l ≤ i → precedes (key_of (slot.League i)) (key_of (slot.League l)) ≡ false
league_stays i l le = grind (arith, nat_tests, le)

-- so many leagues are there
abbrev pub AreThere : Rows → ℕ → Type 0
AreThere rows count = (i : ℕ) → 1 ≤ i → i ≤ count → is_there (map_of rows) (slot.League i) ≡ true

pub at_least : (rows : Rows) (count : ℕ) → AreThere rows count → count ≤ between rows (key_of (slot.League 0)) (key_of (slot.League (count + 1)))
at_least rows count there =
    numbered.at_least (λ l. key_of (slot.League l)) league_precedes league_stays rows count
    (λ i low high. some_there (map_of rows (key_of (slot.League i))) (there i low high))
