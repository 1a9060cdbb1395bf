-- An entry has as many transfers as its history has swaps.
use Rattle.std.proofs.Common.{◌≡◌, ◌∙◌, ◌≤◌, ◌<◌, ◌+◌, ◌-◌, ◌==◌, ℕ, zero, suc, Bool, true, false, cond, List, [], ◌∷◌, ◌++◌, length, map, max, if◌then◌else◌, arith, refl, sym, ap, count_by}
use Rattle.std.proofs.lemmas.Bool.Decides.{nat_tests}
use Rattle.std.proofs.lemmas.List.Sums.{sum_by-cons}
use Rattle.rule_book.specs.declared.transfers.Sale.{Sale}
use Rattle.rule_book.specs.EntryRecords.{sales_in, sold_by, sold_in}
use Rattle.rule_book.specs.History.{Deed, Event}
use Rattle.rule_book.specs.History.Deed.{First, Swap, Lineup, Play, Cancel}
use Rattle.rule_book.specs.HistoryTransfers.{is_swap}
use Rattle.season_entries.specs.Entries.{AreSold}

-- Numbers of gameweeks, added up in two ways.

-- what some gameweeks add to one, and to all
abbrev added_in : List (ℕ × ℕ) → ℕ → ℕ
added_in [] g = 0
added_in (p ∷ ps) g = (if p.0 == g then p.1 else 0) + added_in ps g

abbrev added : List (ℕ × ℕ) → ℕ
added [] = 0
added (p ∷ ps) = p.1 + added ps

-- over the gameweeks below one
abbrev over : (ℕ → ℕ) → ℕ → ℕ
over f zero = 0
over f (suc n) = over f n + f n

-- the first gameweek behind all
abbrev behind : List (ℕ × ℕ) → ℕ
behind [] = 0
behind (p ∷ ps) = max (p.0 + 1) (behind ps)

over_none : (n : ℕ) → over (λ g. 0) n ≡ 0
over_none zero = refl
over_none (suc n) = omega (arith, over_none n)

over_both : (f g : ℕ → ℕ) (n : ℕ) → over (λ k. f k + g k) n ≡ over f n + over g n
over_both f g zero = refl
over_both f g (suc n) = omega (arith, over_both f g n)

over_same : (f g : ℕ → ℕ) → ((k : ℕ) → f k ≡ g k) → (n : ℕ) → over f n ≡ over g n
over_same f g same zero = refl
over_same f g same (suc n) = omega (arith, over_same f g same n, same n)

missed : (k g w : ℕ) → g < k → (if k == g then w else 0) ≡ 0
missed k g w less = let other : (k == g) ≡ false = grind (arith, nat_tests, less) in ap (λ b. if b then w else 0) other

missed_more : (k g w : ℕ) → k < g → (if k == g then w else 0) ≡ 0
missed_more k g w less = let other : (k == g) ≡ false = grind (arith, nat_tests, less) in ap (λ b. if b then w else 0) other

met : (k w : ℕ) → (if k == k then w else 0) ≡ w
met k w = let same : (k == k) ≡ true = grind (arith, nat_tests) in ap (λ b. if b then w else 0) same

over_before : (k w n : ℕ) → n ≤ k → over (λ g. if k == g then w else 0) n ≡ 0
over_before k w zero le = refl
over_before k w (suc n) le = omega (arith, over_before k w n (omega (arith, le)), missed k n w (omega (arith, le)))

over_one : (k w n m : ℕ) → n ≡ (k + 1) + m → over (λ g. if k == g then w else 0) n ≡ w
over_one k w zero m at = absurd (omega (arith, at))
over_one k w (suc n) zero at =
    let here : k ≡ n = omega (arith, at) in
    let last : (if k == n then w else 0) ≡ w = ap (λ i. if k == i then w else 0) (sym here) ∙ met k w in
    omega (arith, over_before k w n (omega (arith, at)), last)
over_one k w (suc n) (suc m) at = omega (arith, over_one k w n m (omega (arith, at)), missed_more k n w (omega (arith, at)))

over_all : (ps : List (ℕ × ℕ)) (n : ℕ) → behind ps ≤ n → over (added_in ps) n ≡ added ps
over_all [] n le = over_none n
over_all (p ∷ ps) n le =
    let own : over (λ g. if p.0 == g then p.1 else 0) n ≡ p.1 = over_one p.0 p.1 n (n - (p.0 + 1)) (omega (arith, le)) in
    let rest : over (added_in ps) n ≡ added ps = over_all ps n (omega (arith, le)) in
    omega (arith, over_both (λ g. if p.0 == g then p.1 else 0) (added_in ps) n, own, rest)

-- where each gameweek has the same, all have the same
same_added : (ps qs : List (ℕ × ℕ)) → ((g : ℕ) → added_in ps g ≡ added_in qs g) → added ps ≡ added qs
same_added ps qs same =
    let n : ℕ = behind ps + behind qs in
    sym (over_all ps n (omega arith)) ∙ over_same (added_in ps) (added_in qs) same n ∙ over_all qs n (omega arith)

-- Transfers.

abbrev each_one : List (ℕ × Sale) → List (ℕ × ℕ)
each_one sales = map (λ s. (s.0, 1)) sales

abbrev each_swap : List Event → List (ℕ × ℕ)
each_swap h = map (λ e. (e.gw, if is_swap e.deed then 1 else 0)) h

one_more : (b : Bool) (s : Sale) (sales : List Sale) (n : ℕ) → length sales ≡ n → length (if b then s ∷ sales else sales) ≡ (if b then 1 else 0) + n
one_more true s sales n is = omega (arith, is)
one_more false s sales n is = omega (arith, is)

long_in : (sales : List (ℕ × Sale)) (g : ℕ) → length (sales_in sales g) ≡ added_in (each_one sales) g
long_in [] g = refl
long_in (s ∷ sales) g = one_more (s.0 == g) s.1 (sales_in sales g) (added_in (each_one sales) g) (long_in sales g)

deed_more : (b : Bool) (d : Deed) (sales : List Sale) (n : ℕ) → length sales ≡ n → length (if b then sold_by d ++ sales else sales) ≡ (if b then (if is_swap d then 1 else 0) else 0) + n
deed_more false d sales n is = omega (arith, is)
deed_more true (First squad captain vice) sales n is = omega (arith, is)
deed_more true (Swap sale) sales n is = omega (arith, is)
deed_more true (Lineup players captain vice) sales n is = omega (arith, is)
deed_more true (Play chip) sales n is = omega (arith, is)
deed_more true Cancel sales n is = omega (arith, is)

sold_long : (h : List Event) (g : ℕ) → length (sold_in h g) ≡ added_in (each_swap h) g
sold_long [] g = refl
sold_long (e ∷ h) g = deed_more (e.gw == g) e.deed (sold_in h g) (added_in (each_swap h) g) (sold_long h g)

all_sales : (sales : List (ℕ × Sale)) → added (each_one sales) ≡ length sales
all_sales [] = refl
all_sales (s ∷ sales) = omega (arith, all_sales sales)

all_swaps : (h : List Event) → added (each_swap h) ≡ count_by (λ e. is_swap e.deed) h
all_swaps [] = refl
all_swaps (e ∷ h) =
    omega (arith, all_swaps h, sum_by-cons (λ (event : Event). cond (is_swap event.deed) 1 0) e h)

-- sales of a history are as many as its swaps
pub as_many_swaps : (sales : List (ℕ × Sale)) (h : List Event) → AreSold sales h → length sales ≡ count_by (λ e. is_swap e.deed) h
as_many_swaps sales h sold =
    sym (all_sales sales)
    ∙ same_added (each_one sales) (each_swap h) (λ g. sym (long_in sales g) ∙ ap length (sold g) ∙ sold_long h g)
    ∙ all_swaps h
