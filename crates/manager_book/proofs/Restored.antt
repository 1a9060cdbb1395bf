-- The records of the entry that a test restores are lawful.
use Rattle.std.proofs.Common.{◌≡◌, ◌≢◌, ◌<◌, ◌≤◌, ◌&&◌, ◌∷◌, [], ◌++◌, ℕ, zero, suc, Bool, true, false, cond, List, Some, length, map, get_or, nat_eq, nat_lt, arith, refl, sym, subst, ⊎_elim}
use Rattle.std.specs.List.{AllByRecursion as Each}
use Rattle.std.specs.Prelude.{AllPairs}
use Rattle.std.proofs.lemmas.Bool.{cases_eq}
use Rattle.std.proofs.lemmas.Bool.Decides.{nat_tests}
use Rattle.fpl_base.specs.declared.kinds.Chip.TheVariants.{None as NoChip}
use Rattle.fpl_base.specs.declared.kinds.Position.TheVariants.{Midfielder}
use Rattle.rule_book.specs.declared.team.Pick.{Pick}
use Rattle.rule_book.specs.declared.team.Team.{Team}
use Rattle.rule_book.specs.declared.transfers.Sale.{Sale}
use Rattle.rule_book.specs.EntryRecords.{AreEntryRecords, IsFifteen, IsPriced, RecordFollows, sales_in, team_before, team_recorded}
use Rattle.rule_book.specs.HistoryTeam.{holdings}
use Rattle.manager_book.proofs.Lined.{apart_players}

-- rising numbers differ
abbrev rises : ℕ → List ℕ → Bool
rises n [] = true
rises n (x ∷ xs) = nat_lt n x && rises x xs

both : (a b : Bool) → (a && b) ≡ true → (a ≡ true) × (b ≡ true)
both true true e = (refl, refl)
both true false e = cc
both false b e = cc

above : (n : ℕ) (xs : List ℕ) (i d : ℕ) → rises n xs ≡ true → i < length xs → n < get_or xs i d
above n [] i d e l = absurd (omega arith)
above n (x ∷ xs) zero d e l = let p : nat_lt n x ≡ true = (both (nat_lt n x) (rises x xs) e).0 in grind (arith, nat_tests)
above n (x ∷ xs) (suc i) d e l =
    let p = both (nat_lt n x) (rises x xs) e in
    let q : nat_lt n x ≡ true = p.0 in
    let r : n < x = grind (arith, nat_tests) in
    let s : x < get_or xs i d = above x xs i d p.1 (omega (arith, l)) in omega (arith, r, s)

apart : (n : ℕ) (xs : List ℕ) → rises n xs ≡ true → AllPairs (λ one other. one ≢ other) xs
apart n [] e i j d lt l = absurd (omega arith)
apart n (x ∷ xs) e i zero d lt l = absurd (omega arith)
apart n (x ∷ xs) e zero (suc j) d lt l = λ same. (let s : x < get_or xs j d = above x xs j d (both (nat_lt n x) (rises x xs) e).1 (omega (arith, l)) in absurd (omega (arith, s, same)))
apart n (x ∷ xs) e (suc i) (suc j) d lt l = apart x xs (both (nat_lt n x) (rises x xs) e).1 i j d (omega (arith, lt)) (omega (arith, l))

-- the teams and the transfer
abbrev pub pick_of : ℕ → ℕ → Pick
pick_of player bought = record { player = player; position = Midfielder; bought = bought }

abbrev pub fifty : List ℕ → List Pick
fifty players = map {B = Pick} (λ p. record { player = p; position = Midfielder; bought = 50 }) players

abbrev fourteen : List ℕ
fourteen = 1 ∷ 2 ∷ 3 ∷ 4 ∷ 5 ∷ 6 ∷ 7 ∷ 8 ∷ 9 ∷ 10 ∷ 11 ∷ 12 ∷ 13 ∷ 14 ∷ []

abbrev pub picks_with : Pick → List Pick
picks_with last = fifty fourteen ++ last ∷ []

abbrev pub team_of : List Pick → ℕ → Team
team_of picks bank = record { picks = picks; captain = 1; vice = 2; bank = bank; chip = NoChip }

abbrev pub before : Team
before = team_of (picks_with (pick_of 15 50)) 250

abbrev pub after : Team
after = team_of (picks_with (pick_of 16 60)) 242

abbrev pub sale : Sale
sale = record { out = 15; into = 16; sold = 52; bought = 60 }

priced : (players : List ℕ) (last : Pick) → (30 ≤ last.bought) × (last.bought ≤ 200) → Each IsPriced (holdings (fifty players ++ last ∷ []))
priced [] last h = (h, tt)
priced (p ∷ players) last h = ((omega arith, omega arith), priced players last h)

is_fifteen : (last : Pick) (bank : ℕ) → rises 0 (map (λ (k : Pick). k.player) (picks_with last)) ≡ true → (30 ≤ last.bought) × (last.bought ≤ 200) → IsFifteen (team_of (picks_with last) bank)
is_fifteen last bank e h = record {
  different = apart_players (picks_with last) (apart 0 (map (λ (k : Pick). k.player) (picks_with last)) e);
  priced = priced fourteen last h;
}

abbrev teams : List (ℕ × Team)
teams = (1, before) ∷ (2, after) ∷ []

abbrev sales : List (ℕ × Sale)
sales = (2, sale) ∷ []

follows : (g : ℕ) → RecordFollows (team_before teams g) (sales_in sales g) (team_recorded teams g)
follows g = ⊎_elim
    (λ (one : g ≡ 1). subst (λ n. RecordFollows (team_before teams n) (sales_in sales n) (team_recorded teams n)) (sym one)
    ((750, omega arith, omega arith, refl), is_fifteen (pick_of 15 50) 250 refl (omega arith, omega arith)))
    (λ (other : g ≢ 1). ⊎_elim
    (λ (two : g ≡ 2). subst (λ n. RecordFollows (team_before teams n) (sales_in sales n) (team_recorded teams n)) (sym two)
    ((record { players = λ p. refl; prices = λ p. refl }, refl), is_fifteen (pick_of 16 60) 242 refl (omega arith, omega arith)))
    (λ (later : g ≢ 2).
    let a : nat_eq 1 g ≡ false = grind (arith, nat_tests) in
    let b : nat_eq 2 g ≡ false = grind (arith, nat_tests) in rw a (rw b refl))
    (cases_eq g 2))
    (cases_eq g 1)

few_sales : (g : ℕ) → length (sales_in sales g) ≤ 1000
few_sales g = by_test (nat_eq 2 g)
  where
    by_test : (b : Bool) → length (cond b (sale ∷ []) []) ≤ 1000
    by_test true = omega arith
    by_test false = omega arith

lawful : AreEntryRecords (Some 1) teams sales
lawful = record {
  starts = refl;
  from_one = (omega arith, (omega arith, tt));
  rise = ((omega arith, tt), (tt, tt));
  bare = refl;
  follow = follows;
  priced = ((omega arith, omega arith, omega arith, omega arith), tt);
  few = few_sales;
}

pub lawful_as : (one two : ℕ) (t u : Team) (s : Sale) → one ≡ 1 → two ≡ 2 → t ≡ before → u ≡ after → s ≡ sale → AreEntryRecords (Some one) ((one, t) ∷ (two, u) ∷ []) ((two, s) ∷ [])
lawful_as one two t u s p q i j k = rw p (rw q (rw i (rw j (rw k lawful))))
