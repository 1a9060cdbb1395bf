-- The leagues that an entry is in, by their numbers, are those of which it is a member.
use Rattle.std.proofs.Common.{◌≡◌, ◌≤◌, ◌<◌, ◌+◌, ◌-◌, ◌==◌, ◌&&◌, ◌∷◌, [], ℕ, suc, Bool, true, false, List, Some, None, arith, refl, sym, ap, subst, ◌∙◌, cond, filter, get_or, length, map, take, if◌then◌else◌}
use Rattle.std.specs.List.{All, enumerate_from, slice_get, sum_by}
use Rattle.std.proofs.lemmas.Bool.Decides.{nat_tests}
use Rattle.std.proofs.lemmas.List.Elements.{All-cons, All-weaker}
use Rattle.std.proofs.lemmas.List.{get_or-map, length-map}
use Rattle.std.proofs.lemmas.List.Sums.{sum_by-cons, sum_by-take-le}
use Rattle.json_members.proofs.ListLemmas.{got}
use Rattle.rule_book.specs.Entries.{entry_in}
use Rattle.rule_book.specs.LeagueCalls.{is_member, leagues_from, leagues_of}
use Rattle.rule_book.specs.Leagues.{LeagueFacts}
use Rattle.season_book.specs.Windows.{my_leagues}
use Rattle.season_views.proofs.Numbered.{stands}

module _ (e : ℕ) where
  -- those among leagues whose first has this number
  abbrev own_from : ℕ → List LeagueFacts → List (ℕ × LeagueFacts)
  own_from n leagues = filter (λ row. is_member row.1 e) (enumerate_from n leagues)

  -- their numbers are the numbers that are told
  numbers_from : (n : ℕ) (leagues : List LeagueFacts) → map (λ row. row.0) (own_from n leagues) ≡ leagues_from n leagues e
  numbers_from n [] = refl
  numbers_from n (league ∷ leagues) = by (is_member league e) (numbers_from (n + 1) leagues)
    where
      by : (b : Bool) → map (λ row. row.0) (own_from (n + 1) leagues) ≡ leagues_from (n + 1) leagues e
          → map (λ row. row.0) (cond b ((n, league) ∷ own_from (n + 1) leagues) (own_from (n + 1) leagues)) ≡ (if b then n ∷ leagues_from (n + 1) leagues e else leagues_from (n + 1) leagues e)
      by true same = ap (λ ns. n ∷ ns) same
      by false same = same

  -- each stands at its number, and the entry is a member of it
  abbrev StandsFrom : ℕ → List LeagueFacts → ℕ × LeagueFacts → Type 0
  StandsFrom n leagues row = (n ≤ row.0) × (slice_get leagues (row.0 - n) ≡ Some row.1) × (is_member row.1 e ≡ true)

  further : (n : ℕ) (league : LeagueFacts) (leagues : List LeagueFacts) (row : ℕ × LeagueFacts) → StandsFrom (n + 1) leagues row → StandsFrom n (league ∷ leagues) row
  further n league leagues row stands =
      let less : row.0 - n ≡ suc (row.0 - (n + 1)) = omega (arith, stands.0) in
      (omega (arith, stands.0), ap (slice_get (league ∷ leagues)) less ∙ stands.1, stands.2)

  stand_from : (n : ℕ) (leagues : List LeagueFacts) → All (StandsFrom n leagues) (own_from n leagues)
  stand_from n [] = λ k d below. absurd (omega (arith, below))
  stand_from n (league ∷ leagues) =
      by (is_member league e) refl (All-weaker (StandsFrom (n + 1) leagues) (StandsFrom n (league ∷ leagues)) (further n league leagues) (own_from (n + 1) leagues) (stand_from (n + 1) leagues))
    where
      here : is_member league e ≡ true → StandsFrom n (league ∷ leagues) (n, league)
      here is = (omega arith, let none : n - n ≡ 0 = omega arith in ap (slice_get (league ∷ leagues)) none, is)

      by : (b : Bool) → is_member league e ≡ b → All (StandsFrom n (league ∷ leagues)) (own_from (n + 1) leagues)
          → All (StandsFrom n (league ∷ leagues)) (cond b ((n, league) ∷ own_from (n + 1) leagues) (own_from (n + 1) leagues))
      by true is more = All-cons (StandsFrom n (league ∷ leagues)) (n, league) (own_from (n + 1) leagues) (here is) more
      by false is more = more

  -- what is summed up over them is no more than over all
  summed_own : (f : LeagueFacts → ℕ) (n : ℕ) (leagues : List LeagueFacts) → sum_by (λ row. f row.1) (own_from n leagues) ≤ sum_by f leagues
  summed_own f n [] = omega arith
  summed_own f n (league ∷ leagues) = by (is_member league e) (summed_own f (n + 1) leagues)
    where
      own : List (ℕ × LeagueFacts)
      own = own_from (n + 1) leagues

      by : (b : Bool) → sum_by (λ row. f row.1) own ≤ sum_by f leagues → sum_by (λ row. f row.1) (cond b ((n, league) ∷ own) own) ≤ sum_by f (league ∷ leagues)
      by true less =
          let one : sum_by (λ row. f row.1) ((n, league) ∷ own) ≡ f league + sum_by (λ row. f row.1) own = sum_by-cons (λ (row : ℕ × LeagueFacts). f row.1) (n, league) own in
          let all : f league + sum_by (λ row. f row.1) own ≤ sum_by f (league ∷ leagues) = omega (arith, less, sum_by-cons f league leagues) in
          subst (λ m. m ≤ sum_by f (league ∷ leagues)) (sym one) all
      by false less = omega (arith, less, sum_by-cons f league leagues)

-- so it is of the first of them
pub summed_first : (f : LeagueFacts → ℕ) (leagues : List LeagueFacts) (e i : ℕ) → sum_by (λ row. f row.1) (take i (my_leagues leagues e)) ≤ sum_by f leagues
summed_first f leagues e i =
    let first : sum_by (λ row. f row.1) (take i (my_leagues leagues e)) ≤ sum_by (λ row. f row.1) (my_leagues leagues e) = sum_by-take-le (λ row. f row.1) (my_leagues leagues e) i in
    let all : sum_by (λ row. f row.1) (my_leagues leagues e) ≤ sum_by f leagues = summed_own e f 1 leagues in
    omega (arith, first, all)

pub own_numbers : (leagues : List LeagueFacts) (e : ℕ) → map (λ row. row.0) (my_leagues leagues e) ≡ leagues_of leagues e
own_numbers leagues e = numbers_from e 1 leagues

-- the league of a number among those of an entry
pub own_at : (leagues : List LeagueFacts) (e i l : ℕ) → i < length (leagues_of leagues e) → l ≡ get_or (leagues_of leagues e) i l
    → (league : LeagueFacts) × (slice_get (my_leagues leagues e) i ≡ Some (l, league)) × (entry_in leagues l ≡ Some league) × (is_member league e ≡ true)
own_at leagues e i l below is =
    let own = my_leagues leagues e in
    let within : i < length own = subst (λ m. i < m) (sym (ap length (own_numbers leagues e)) ∙ length-map own (λ row. row.0)) below in
    let there = stands own i within in
    let row = there.0 in
    let at = got own i row there.1 in
    let number : row.0 ≡ l =
    sym (ap (λ r. r.0) at.1) ∙ sym (get_or-map (λ row. row.0) own i row l within) ∙ ap (λ ns. get_or ns i l) (own_numbers leagues e) ∙ sym is in
    let from = subst (StandsFrom e 1 leagues) at.1 (stand_from e 1 leagues i row within) in
    let some : (l == 0) ≡ false = grind (arith, nat_tests, from.0, number) in
    let less : l - 1 ≡ row.0 - 1 = omega (arith, number) in (
      row.1,
      there.1 ∙ ap (λ n. Some (n, row.1)) number,
      ap (λ b. if b then None else slice_get leagues (l - 1)) some ∙ ap (slice_get leagues) less ∙ from.1,
      from.2,
    )

-- what passes both tests passes the one among those that pass the other
pub filter_both : {X : Type 0} (p q : X → Bool) (xs : List X) → filter p (filter q xs) ≡ filter (λ x. p x && q x) xs
filter_both p q [] = refl
filter_both p q (x ∷ xs) = by (p x) (q x) refl (filter_both p q xs)
  where
    by : (a b : Bool) → p x ≡ a → filter p (filter q xs) ≡ filter (λ y. p y && q y) xs
        → filter p (cond b (x ∷ filter q xs) (filter q xs)) ≡ cond (a && b) (x ∷ filter (λ y. p y && q y) xs) (filter (λ y. p y && q y) xs)
    by true true is same = ap (λ v. cond v (x ∷ filter p (filter q xs)) (filter p (filter q xs))) is ∙ ap (λ ys. x ∷ ys) same
    by false true is same = ap (λ v. cond v (x ∷ filter p (filter q xs)) (filter p (filter q xs))) is ∙ same
    by true false is same = same
    by false false is same = same

pub own_count : (leagues : List LeagueFacts) (e : ℕ) → length (my_leagues leagues e) ≡ length (leagues_of leagues e)
own_count leagues e = sym (length-map (my_leagues leagues e) (λ row. row.0)) ∙ ap length (own_numbers leagues e)
