-- The leagues of an entry, as leagues are added and changed.
use Rattle.std.proofs.Common.{◌≡◌, ◌≢◌, ◌∙◌, sym, ap, refl, ℕ, zero, suc, ◌+◌, ◌<◌, ◌≤◌, true, false, List, [], ◌∷◌, ◌++◌, length, get_or, set, arith, if◌then◌else◌}
use Rattle.std.specs.List.{All}
use Rattle.std.proofs.lemmas.List.Elements.{All-cons, All-weaker}
use Rattle.rule_book.specs.LeagueCalls.{is_member, leagues_from, with_member}
use Rattle.rule_book.specs.Leagues.{LeagueFacts}
use Rattle.leagues_and_cups.specs.Books.{with_number}
use Rattle.leagues_and_cups.proofs.Members.{member_now}
use Rattle.leagues_and_cups.proofs.Numbers.{with_behind, with_between}

-- the numbers are those of leagues from the first on
pub in_range : (n : ℕ) (leagues : List LeagueFacts) (e : ℕ) → All (λ l. (n ≤ l) × (l < n + length leagues)) (leagues_from n leagues e)
in_range n [] e = λ k d lt. absurd (omega arith)
in_range n (league ∷ leagues) e =
    let P : ℕ → Type 0 = λ l. (n ≤ l) × (l < n + length (league ∷ leagues)) in
    let more : All P (leagues_from (n + 1) leagues e) = All-weaker (λ l. (n + 1 ≤ l) × (l < n + 1 + length leagues)) P (λ l h. (omega (arith, h.0), omega (arith, h.1))) (leagues_from (n + 1) leagues e) (in_range (n + 1) leagues e) in
    elim (is_member league e) as (λ b. All P (if b then n ∷ leagues_from (n + 1) leagues e else leagues_from (n + 1) leagues e)) [
      | true ↦ All-cons P n (leagues_from (n + 1) leagues e) (omega arith, omega arith) more
      | false ↦ more
    ]

later : (n : ℕ) (leagues : List LeagueFacts) (e : ℕ) → All (λ l. n < l) (leagues_from (n + 1) leagues e)
later n leagues e = All-weaker (λ l. (n + 1 ≤ l) × (l < n + 1 + length leagues)) (λ l. n < l) (λ l h. omega (arith, h.0)) (leagues_from (n + 1) leagues e) (in_range (n + 1) leagues e)

-- a league more is the last of its member's
pub added_from : (n : ℕ) (leagues : List LeagueFacts) (new : LeagueFacts) (e : ℕ) → leagues_from n (leagues ++ new ∷ []) e ≡ leagues_from n leagues e ++ (if is_member new e then (n + length leagues) ∷ [] else [])
added_from n [] new e = let same : n + 0 ≡ n = omega arith in rw same refl
added_from n (league ∷ leagues) new e =
    let more = added_from (n + 1) leagues new e in
    let same : n + 1 + length leagues ≡ n + length (league ∷ leagues) = omega arith in
    let A = leagues_from (n + 1) leagues e in
    let B = leagues_from (n + 1) (leagues ++ new ∷ []) e in
    let C = if is_member new e then (n + length (league ∷ leagues)) ∷ [] else [] in
    let step : B ≡ A ++ C = more ∙ ap (λ k. A ++ (if is_member new e then k ∷ [] else [])) same in
    elim (is_member league e) as (λ b. (if b then n ∷ B else B) ≡ (if b then n ∷ A else A) ++ C) [
      | true ↦ ap (λ r. n ∷ r) step
      | false ↦ step
    ]

-- a league that is changed stays with who is a member as before
pub changed_from : (n : ℕ) (leagues : List LeagueFacts) (k : ℕ) (new d : LeagueFacts) (e : ℕ) → is_member new e ≡ is_member (get_or leagues k d) e → leagues_from n (set leagues k new) e ≡ leagues_from n leagues e
changed_from n [] k new d e same = refl
changed_from n (league ∷ leagues) zero new d e same = rw same refl
changed_from n (league ∷ leagues) (suc k) new d e same =
    ap (λ r. if is_member league e then n ∷ r else r) (changed_from (n + 1) leagues k new d e same)

-- it is none of his leagues who is no member
pub absent_from : (n : ℕ) (leagues : List LeagueFacts) (k : ℕ) (d : LeagueFacts) (e : ℕ) → k < length leagues → is_member (get_or leagues k d) e ≡ false → All (λ l. l ≢ n + k) (leagues_from n leagues e)
absent_from n [] k d e lt none = absurd (omega arith)
absent_from n (league ∷ leagues) zero d e lt none =
    rw none (All-weaker (λ l. n < l) (λ l. l ≢ n + 0) (λ l h same. omega arith) (leagues_from (n + 1) leagues e) (later n leagues e))
absent_from n (league ∷ leagues) (suc k) d e lt none =
    let P : ℕ → Type 0 = λ l. l ≢ n + suc k in
    let more : All P (leagues_from (n + 1) leagues e) = All-weaker (λ l. l ≢ n + 1 + k) P (λ l h same. h (omega arith)) (leagues_from (n + 1) leagues e) (absent_from (n + 1) leagues k d e (omega arith) none) in
    elim (is_member league e) as (λ b. All P (if b then n ∷ leagues_from (n + 1) leagues e else leagues_from (n + 1) leagues e)) [
      | true ↦ All-cons P n (leagues_from (n + 1) leagues e) (λ same. omega arith) more
      | false ↦ more
    ]

-- a league that he joins stands in its place among his
pub joined_from : (n : ℕ) (leagues : List LeagueFacts) (k : ℕ) (d : LeagueFacts) (e : ℕ) → k < length leagues → is_member (get_or leagues k d) e ≡ false → leagues_from n (set leagues k (with_member e (get_or leagues k d))) e ≡ with_number (n + k) (leagues_from n leagues e)
joined_from n [] k d e lt none = absurd (omega arith)
joined_from n (league ∷ leagues) zero d e lt none =
    let A = leagues_from (n + 1) leagues e in
    let first : with_number n A ≡ n ∷ A = with_between n [] A (λ k d lt. absurd (omega arith)) (later n leagues e) in
    let same : n + 0 ≡ n = omega arith in
    rw (member_now league e, none, same) (sym first)
joined_from n (league ∷ leagues) (suc k) d e lt none =
    let A = leagues_from (n + 1) leagues e in
    let B = leagues_from (n + 1) (set leagues k (with_member e (get_or leagues k d))) e in
    let same : n + 1 + k ≡ n + suc k = omega arith in
    let step : B ≡ with_number (n + suc k) A = joined_from (n + 1) leagues k d e (omega arith) none ∙ ap (λ l. with_number l A) same in
    elim (is_member league e) as (λ b. (if b then n ∷ B else B) ≡ with_number (n + suc k) (if b then n ∷ A else A)) [
      | true ↦ ap (λ r. n ∷ r) step ∙ sym (with_behind (n + suc k) n A (omega arith))
      | false ↦ step
    ]
