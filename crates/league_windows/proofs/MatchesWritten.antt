-- Matches that are written one behind another.
use Rattle.std.proofs.Common.{◌≡◌, ◌∙◌, ◌≤◌, ◌+◌, ◌-◌, ℕ, zero, suc, Bool, true, false, cond, List, [], ◌∷◌, ◌++◌, length, map, Result, count_by, if◌then◌else◌, arith, refl, ap}
use Rattle.std.specs.Prelude.{filter}
use Rattle.std.specs.List.{flat_map, range_with_len}
use Rattle.std.specs.declared.alloc.AllocError.{AllocError}
use Rattle.std.proofs.lemmas.Grind.{flat_map-append}
use Rattle.std.proofs.lemmas.List.{append-nil as nothing_behind, map-append}
use Rattle.std.proofs.lemmas.List.Elements.{filter-append}
use Rattle.std.proofs.lemmas.List.Sums.{sum_by-append}
use Rattle.json.specs.Written.{Written}
use Rattle.serde_json.specs.Data.{Data}
use Rattle.json_members.specs.Tokens.{Appends, tokens_of}
use Rattle.rule_book.specs.Leagues.{LeagueFacts}
use Rattle.season_book.specs.HeadMatches.{matches_in, stands_first}
use Rattle.league_windows.specs.RowTokens.{row_tokens}
use Rattle.league_windows.proofs.RowsWritten.{one_row, range_one_more}

-- one or none
abbrev pub if_first : Bool → ℕ → ℕ → List (ℕ × ℕ)
if_first t g n = if t then (g, n) ∷ [] else []

-- the matches of a gameweek at the first places
abbrev pub first_matches : LeagueFacts → ℕ → ℕ → List (ℕ × ℕ)
first_matches league g n = map (λ place. (g, place)) (filter (stands_first (length league.order) (g - league.start)) (range_with_len 0 n))

if_kept : (t : Bool) (g n : ℕ) → map (λ (place : ℕ). (g, place)) (cond t (n ∷ []) []) ≡ if_first t g n
if_kept true g n = refl
if_kept false g n = refl

-- at one place more
pub place_more : (league : LeagueFacts) (g n : ℕ) → first_matches league g (n + 1) ≡ first_matches league g n ++ if_first (stands_first (length league.order) (g - league.start) n) g n
place_more league g n =
    let test : ℕ → Bool = stands_first (length league.order) (g - league.start) in
    let at : 0 + n ≡ n = omega arith in
    ap (λ places. map (λ place. (g, place)) (filter test places)) (range_one_more 0 n n at)
    ∙ ap (map (λ place. (g, place))) (filter-append test (range_with_len 0 n) (n ∷ []))
    ∙ map-append (λ place. (g, place)) (filter test (range_with_len 0 n)) (filter test (n ∷ []))
    ∙ ap (λ rows. first_matches league g n ++ rows) (if_kept (test n) g n)

-- what is written of it
pub if_written : {r : Result (Unit {0}) AllocError} {a b : Written} (row : ℕ × ℕ → Data) (t : Bool) (g n : ℕ) → Appends r a b (if t then tokens_of (row (g, n)) else []) → Appends r a b (row_tokens row (if_first t g n))
if_written row true g n wrote = one_row row (g, n) wrote
if_written row false g n wrote = wrote

one_counted : (p : ℕ × ℕ → Bool) (t : Bool) (g n : ℕ) → count_by p (if_first t g n) ≡ (if t then (if p (g, n) then 1 else 0) else 0)
one_counted p false g n = refl
one_counted p true g n = by_test (p (g, n))
  where
    by_test : (v : Bool) → 0 + cond v 1 0 ≡ (if v then 1 else 0)
    by_test true = refl
    by_test false = refl

-- and read
pub counted_more : (p : ℕ × ℕ → Bool) (xs ys : List (ℕ × ℕ)) → count_by p (xs ++ ys) ≡ count_by p xs + count_by p ys
counted_more p xs ys = sum_by-append (λ x. cond (p x) 1 0) xs ys

pub place_read : (p : ℕ × ℕ → Bool) (league : LeagueFacts) (g n start old new : ℕ) → old ≤ start + count_by p (first_matches league g n)
    → new ≤ old + (if stands_first (length league.order) (g - league.start) n then (if p (g, n) then 1 else 0) else 0) → new ≤ start + count_by p (first_matches league g (n + 1))
place_read p league g n start old new before one =
    let t : Bool = stands_first (length league.order) (g - league.start) n in
    let here = one_counted p t g n in
    let more = counted_more p (first_matches league g n) (if_first t g n) in
    let all = ap (count_by p) (place_more league g n) in
    omega (arith, before, one, here, more, all)

-- the matches of the first gameweeks from a start, and of one more
abbrev pub rounds_from : LeagueFacts → ℕ → ℕ → List (ℕ × ℕ)
rounds_from league start n = flat_map (matches_in league) (range_with_len start n)

pub round_more : (league : LeagueFacts) (start n : ℕ) → rounds_from league start (n + 1) ≡ rounds_from league start n ++ matches_in league (start + n)
round_more league start n =
    ap (flat_map (matches_in league)) (range_one_more start n (start + n) refl)
    ∙ flat_map-append (matches_in league) (range_with_len start n) ((start + n) ∷ [])
    ∙ ap (λ rows. rounds_from league start n ++ rows) (nothing_behind (matches_in league (start + n)))

-- the more there are, the more are counted
pub grows : (p : ℕ × ℕ → Bool) (some extra : ℕ → List (ℕ × ℕ)) → ((n : ℕ) → some (n + 1) ≡ some n ++ extra n) → (m n : ℕ) → m ≤ n → count_by p (some m) ≤ count_by p (some n)
grows p some extra more m n le =
    let whole : m + (n - m) ≡ n = omega (arith, le) in
    omega (arith, by_gap (n - m), ap (λ k. count_by p (some k)) whole)
  where
    by_gap : (k : ℕ) → count_by p (some m) ≤ count_by p (some (m + k))
    by_gap zero = let same : m + 0 ≡ m = omega arith in omega (arith, ap (λ k. count_by p (some k)) same)
    by_gap (suc k) =
        let next : (m + k) + 1 ≡ m + suc k = omega arith in
        omega (arith, by_gap k, ap (λ j. count_by p (some j)) next, ap (count_by p) (more (m + k)), counted_more p (some (m + k)) (extra (m + k)))

-- the reads of one gameweek more
pub round_read : (p : ℕ × ℕ → Bool) (league : LeagueFacts) (from n start old new : ℕ) → old ≤ start + count_by p (rounds_from league from n) → new ≤ old + count_by p (matches_in league (from + n))
    → new ≤ start + count_by p (rounds_from league from (n + 1))
round_read p league from n start old new before more =
    omega (arith, before, more, ap (count_by p) (round_more league from n), counted_more p (rounds_from league from n) (matches_in league (from + n)))
