-- Things by their numbers, and what is written of them.
use Rattle.std.proofs.Common.{◌≡◌, ◌<◌, ◌+◌, ◌-◌, ◌==◌, ℕ, zero, suc, false, List, [], ◌∷◌, length, Some, None, arith, refl, sym, ap, subst, ◌∙◌, if◌then◌else◌}
use Rattle.std.specs.List.{slice_get}
use Rattle.std.proofs.lemmas.Bool.Decides.{nat_tests}
use Rattle.rule_book.specs.declared.player.Player.{Player}
use Rattle.rule_book.specs.Entries.{entry_in}
use Rattle.manager_book.specs.declared.manager.Manager.{Manager}
use Rattle.season_book.specs.Book.{EntryFacts}
use Rattle.season_entries.specs.Entries.{AreEntries}
use Rattle.season_entries.proofs.Keyed.{same_many}

-- there is something at each place below the length
pub stands : {X : Type 0} (xs : List X) (i : ℕ) → i < length xs → (x : X) × (slice_get xs i ≡ Some x)
stands [] i below = absurd (omega arith)
stands (x ∷ xs) zero below = (x, refl)
stands (x ∷ xs) (suc i) below = stands xs i (omega arith)

numbered_is : {X : Type 0} (xs : List X) (i n : ℕ) → 1 + i ≡ n → entry_in xs n ≡ slice_get xs i
numbered_is xs i n is =
    let some : (n == 0) ≡ false = grind (arith, nat_tests, is) in
    let less : n - 1 ≡ i = omega (arith, is) in
    ap (λ b. if b then None else slice_get xs (n - 1)) some ∙ ap (slice_get xs) less

-- what has a number of these stands at the place before it
pub numbered_at : {X : Type 0} (xs : List X) (i n : ℕ) → i < length xs → 1 + i ≡ n → (x : X) × (slice_get xs i ≡ Some x) × (entry_in xs n ≡ Some x)
numbered_at xs i n below is = let there = stands xs i below in (there.0, there.1, numbered_is xs i n is ∙ there.1)

-- managers stand for as many entries
pub as_many : (players : List Player) (managers : List Manager) (entries : List EntryFacts) → AreEntries players managers entries → length managers ≡ length entries
as_many players managers entries are = sym (same_many players managers entries are)

-- so it is with the entries of a book that managers stand for
pub entry_numbered : (players : List Player) (managers : List Manager) (entries : List EntryFacts) (i n : ℕ) → AreEntries players managers entries → i < length managers → 1 + i ≡ n
    → (entry : EntryFacts) × (slice_get entries i ≡ Some entry) × (entry_in entries n ≡ Some entry)
entry_numbered players managers entries i n are below is = numbered_at entries i n (subst (λ m. i < m) (as_many players managers entries are) below) is
