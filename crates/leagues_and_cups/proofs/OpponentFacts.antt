-- The opponent of the definition is the one of the rules.
use Rattle.std.proofs.Common.{zero, suc, ℕ, ◌≡◌, ◌≢◌, ◌∙◌, sym, refl, ap, subst, ◌<◌, ◌≤◌, ◌+◌, ◌-◌, ◌*◌, ◌%◌, inl, inr, Bool, true, false, Some, arith, find, if◌then◌else◌}
use Rattle.std.specs.Prelude.{◌==◌, nat_lt}
use Rattle.std.specs.Bool.{Decides}
use Rattle.std.specs.List.{range_with_len}
use Rattle.std.specs.Option.{option_map_or}
use Rattle.std.proofs.lemmas.Bool.Decides.{Decides-and, Decides-not, Decides-eqb, Decides-like, nat_tests}
use Rattle.rule_book.specs.Opponents.{OpponentIsTheOne, does_meet, opponent_at, opponent_of, pair_number}
use Rattle.rule_book.specs.Pairings.{IsOpponent, Meets, places}
use Rattle.rule_book.specs.declared.pairing.Opponent.TheVariants.{Place, Average}
use Rattle.leagues_and_cups.proofs.RoundLemmas.{one_opponent, same_opponent}

-- the only number of a range that passes is found
found_by : (p : ℕ → Bool) (a m j : ℕ) (b : Bool) → (b ≡ true → a ≡ j) → (b ≡ false → find p (range_with_len (a + 1) m) ≡ Some j) → (if b then Some a else find p (range_with_len (a + 1) m)) ≡ Some j
found_by p a m j true here there = ap Some (here refl)
found_by p a m j false here there = there refl

not_here : (p : ℕ → Bool) (a j : ℕ) → p j ≡ true → p a ≡ false → a ≢ j
not_here p a j holds fails e = absurd (let q : p j ≡ false = ap p (sym e) ∙ fails in cc (sym holds ∙ q))

found : (p : ℕ → Bool) (a m j : ℕ) → a ≤ j → j < a + m → p j ≡ true → ((y : ℕ) → y < a + m → p y ≡ true → y ≡ j) → find p (range_with_len a m) ≡ Some j
found p a zero j low high holds only = absurd (omega arith)
found p a (suc m) j low high holds only =
    found_by p a m j (p a) (only a (omega arith))
    (λ fails. let apart : a ≢ j = not_here p a j holds fails in
    found p (a + 1) m j (omega (arith, apart)) (omega arith) holds (λ y lt. only y (omega arith)))

-- the test decides the relation
to_meets : (n k i j : ℕ) (a b : Bool) → (i == n - 1) ≡ a → (j == n - 1) ≡ b → i < n → j < n → i ≢ j → (if a then 2 * j else if b then 2 * i else i + j) % (n - 1) ≡ k % (n - 1) → Meets n k i j
to_meets n k i j true b e f li lj ne q =
    let is : i ≡ n - 1 = (Decides-eqb i (n - 1)).0 e in
    (ne, inr (inl (is, omega (arith, ne), q)))
to_meets n k i j false true e f li lj ne q =
    let is : j ≡ n - 1 = (Decides-eqb j (n - 1)).0 f in
    (ne, inr (inr (is, omega (arith, ne), q)))
to_meets n k i j false false e f li lj ne q =
    let one : i < n - 1 = grind (arith, nat_tests) in
    let two : j < n - 1 = grind (arith, nat_tests) in
    (ne, inl (one, two, q))

to_number : (n k i j : ℕ) → Meets n k i j → pair_number n i j % (n - 1) ≡ k % (n - 1)
to_number n k i j (ne, inl (a, b, e)) =
    let one : (i == n - 1) ≡ false = grind (arith, nat_tests) in
    let two : (j == n - 1) ≡ false = grind (arith, nat_tests) in
    rw (one, two) e
to_number n k i j (ne, inr (inl (a, b, e))) = let one : (i == n - 1) ≡ true = grind (arith, nat_tests) in rw one e
to_number n k i j (ne, inr (inr (a, b, e))) =
    let one : (i == n - 1) ≡ false = grind (arith, nat_tests) in
    let two : (j == n - 1) ≡ true = grind (arith, nat_tests) in
    rw (one, two) e

decides : (n k i j : ℕ) → i < n → j < n → Decides (does_meet n k i j) (Meets n k i j)
decides n k i j li lj = Decides-like (does_meet n k i j)
    (λ p. to_meets n k i j (i == n - 1) (j == n - 1) refl refl li lj p.0 p.1)
    (λ m. (m.0, to_number n k i j m))
    (Decides-and _ _ (Decides-not (i == j) (Decides-eqb i j)) (Decides-eqb (pair_number n i j % (n - 1)) (k % (n - 1))))

at_place : (members k i j : ℕ) (b : Bool) → nat_lt j members ≡ b → j < places members → Meets (places members) k i j → IsOpponent members k i (if b then Place j else Average)
at_place members k i j true e within meets = let lt : j < members = grind (arith, nat_tests) in (lt, meets)
at_place members k i j false e within meets =
    let ge : members ≤ j = grind (arith, nat_tests) in
    let is : j ≡ members = omega arith in
    (omega arith, subst (Meets (places members) k i) is meets)

is_opponent : (members k i : ℕ) → 2 ≤ members → i < members → IsOpponent members k i (opponent_of members k i)
is_opponent members k i some within =
    let n = places members in
    let (j, lt, ne, meets, back, only) = one_opponent n k i (omega arith) (omega arith) in
    let f : find (does_meet n k i) (range_with_len 0 n) ≡ Some j =
    found (does_meet n k i) 0 n j (omega arith) (omega arith) ((decides n k i j (omega arith) lt).1 meets)
    (λ y less holds. only y (omega arith) ((decides n k i y (omega arith) (omega arith)).0 holds)) in
    subst (IsOpponent members k i) (sym (ap (λ o. option_map_or (opponent_at members) o Average) f)) (at_place members k i j (nat_lt j members) refl lt meets)

pub opponent_is_the_one : OpponentIsTheOne
opponent_is_the_one members k i opponent some within =
    let there = is_opponent members k i some within in
    (λ o. same_opponent members k i opponent (opponent_of members k i) some within o there, λ e. subst (IsOpponent members k i) (sym e) there)
