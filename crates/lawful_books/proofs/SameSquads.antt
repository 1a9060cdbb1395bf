-- The squad behind events has the players and prices that their transfers give, whatever the lineups among them did to
-- the order.
use Rattle.std.proofs.Common.{◌≡◌, ◌≢◌, ◌<◌, ◌+◌, ℕ, Bool, true, false, cond, List, [], ◌∷◌, ◌++◌, map, eq-eqb, nat_eq, arith, refl, sym, ap, ◌∙◌, subst, ⊎_elim}
use Rattle.std.specs.List.{AllByRecursion as Each}
use Rattle.std.proofs.lemmas.Bool.{cases_eq}
use Rattle.std.proofs.lemmas.Bool.Decides.{nat_tests}
use Rattle.std.proofs.lemmas.List.{append-nil}
use Rattle.rule_book.specs.declared.transfers.Sale.{Sale}
use Rattle.rule_book.specs.EntryRecords.{SameHoldings, after_sales, price_among, sold_by, swapped}
use Rattle.rule_book.specs.History.{Deed, Event, Holding}
use Rattle.rule_book.specs.History.Deed.{First, Swap, Lineup, Play, Cancel}
use Rattle.rule_book.specs.HistoryRules.{FitsKept, is_first, times}
use Rattle.rule_book.specs.HistorySquad.{bought_at, follow_one, holdings_of, in_squad, order_of}
use Rattle.season_ledger.proofs.Counted.{KeptFrom, Sound, in_squad-times, not_in_squad-times, sound_push, times_come, times_gone, times_stay}
use Rattle.season_ledger.proofs.Ledger.{held_none, priced}
use Rattle.season_ledger.proofs.Swaps.{holdings-cancel, holdings-lineup, holdings-play, holdings-swap, push_more}
use Rattle.stored_records.specs.Sequels.{are_alike, are_same_holdings, is_alike}
use Rattle.lawful_books.proofs.Formed.{and_then}

-- the players of holdings
abbrev pub players : List Holding → List ℕ
players squad = map (λ k. k.player) squad

-- the transfers of events, in their order
abbrev pub sold : List Event → List Sale
sold [] = []
sold (e ∷ es) = sold_by e.deed ++ sold es

same_through : (a b c : List Holding) → SameHoldings a b → SameHoldings b c → SameHoldings a c
same_through a b c one other = record { players = λ p. one.players p ∙ other.players p; prices = λ p. one.prices p ∙ other.prices p }

-- a swap of a player who stands once with one who does not
players_after : (s : Sale) (squad : List Holding) → players (map (swapped s) squad) ≡ map (follow_one (Swap s)) (players squad)
players_after s [] = refl
players_after s (k ∷ squad) =
    let more : players (map (swapped s) squad) ≡ map (follow_one (Swap s)) (players squad) = players_after s squad in
    ⊎_elim
    (λ (e : k.player ≡ s.out). let u : nat_eq k.player s.out ≡ true = grind (arith, nat_tests) in rw u (ap (λ ps. s.into ∷ ps) more))
    (λ (n : k.player ≢ s.out). let u : nat_eq k.player s.out ≡ false = grind (arith, nat_tests) in rw u (ap (λ ps. k.player ∷ ps) more))
    (cases_eq k.player s.out)

price_come : (s : Sale) (squad : List Holding) → times s.into (players squad) ≡ 0 → 0 < times s.out (players squad) → price_among s.into (map (swapped s) squad) ≡ s.bought
price_come s [] none some = absurd (omega arith)
price_come s (k ∷ squad) none some = ⊎_elim
    (λ (e : k.player ≡ s.out).
    let u : nat_eq k.player s.out ≡ true = grind (arith, nat_tests) in let v : nat_eq s.into s.into ≡ true = grind (arith, nat_tests) in rw u (rw v refl))
    (λ (n : k.player ≢ s.out).
    let u : nat_eq k.player s.out ≡ false = grind (arith, nat_tests) in
    let later : 0 < 0 + times s.out (players squad) = rw u at some in
    ⊎_elim
    (λ (e : k.player ≡ s.into). let v : nat_eq k.player s.into ≡ true = grind (arith, nat_tests) in let one : 1 + times s.into (players squad) ≡ 0 = rw v at none in absurd (omega arith))
    (λ (m : k.player ≢ s.into).
    let v : nat_eq k.player s.into ≡ false = grind (arith, nat_tests) in
    let rest : 0 + times s.into (players squad) ≡ 0 = rw v at none in
    rw u (rw v (price_come s squad (omega arith) (omega arith))))
    (cases_eq k.player s.into))
    (cases_eq k.player s.out)

price_gone : (s : Sale) (squad : List Holding) → s.out ≢ s.into → price_among s.out (map (swapped s) squad) ≡ 0
price_gone s [] other = refl
price_gone s (k ∷ squad) other = ⊎_elim
    (λ (e : k.player ≡ s.out).
    let u : nat_eq k.player s.out ≡ true = grind (arith, nat_tests) in let v : nat_eq s.into s.out ≡ false = grind (arith, nat_tests) in rw u (rw v (price_gone s squad other)))
    (λ (n : k.player ≢ s.out). let u : nat_eq k.player s.out ≡ false = grind (arith, nat_tests) in rw u (rw u (price_gone s squad other)))
    (cases_eq k.player s.out)

price_stay : (s : Sale) (p : ℕ) (squad : List Holding) → p ≢ s.out → p ≢ s.into → price_among p (map (swapped s) squad) ≡ price_among p squad
price_stay s p [] other out = refl
price_stay s p (k ∷ squad) n m =
    let more : price_among p (map (swapped s) squad) ≡ price_among p squad = price_stay s p squad n m in
    ⊎_elim
    (λ (e : k.player ≡ s.out).
    let u : nat_eq k.player s.out ≡ true = grind (arith, nat_tests) in let v : nat_eq s.into p ≡ false = grind (arith, nat_tests) in
    let w : nat_eq k.player p ≡ false = grind (arith, nat_tests) in rw u (rw (v, w) more))
    (λ (o : k.player ≢ s.out). let u : nat_eq k.player s.out ≡ false = grind (arith, nat_tests) in rw u (ap (λ x. cond (nat_eq k.player p) k.bought x) more))
    (cases_eq k.player s.out)

-- two squads that are the same stay so
same_swap : (s : Sale) (a b : List Holding) → times s.out (players a) ≡ 1 → times s.into (players a) ≡ 0 → SameHoldings a b
    → SameHoldings (map (swapped s) a) (map (swapped s) b)
same_swap s a b one none same =
    let other : s.out ≢ s.into = λ e. (let bad : times s.out (players a) ≡ 0 = ap (λ p. times p (players a)) e ∙ none in omega arith) in
    let out : times s.out (players b) ≡ 1 = sym (same.players s.out) ∙ one in
    let into : times s.into (players b) ≡ 0 = sym (same.players s.into) ∙ none in
    record {
      players = λ p. ap (times p) (players_after s a) ∙ counted p other ∙ sym (ap (times p) (players_after s b));
      prices = λ p. ⊎_elim
          (λ (e : p ≡ s.out). subst (λ q. price_among q (map (swapped s) a) ≡ price_among q (map (swapped s) b)) (sym e) (price_gone s a other ∙ sym (price_gone s b other)))
          (λ (n : p ≢ s.out). ⊎_elim
          (λ (e : p ≡ s.into). subst (λ q. price_among q (map (swapped s) a) ≡ price_among q (map (swapped s) b)) (sym e) (price_come s a none (omega arith) ∙ sym (price_come s b into (omega arith))))
          (λ (m : p ≢ s.into). price_stay s p a n m ∙ same.prices p ∙ sym (price_stay s p b n m))
          (cases_eq p s.into))
          (cases_eq p s.out);
    }
  where
    counted : (p : ℕ) → s.out ≢ s.into → times p (map (follow_one (Swap s)) (players a)) ≡ times p (map (follow_one (Swap s)) (players b))
    counted p other = ⊎_elim
        (λ (e : p ≡ s.out). subst (λ q. times q (map (follow_one (Swap s)) (players a)) ≡ times q (map (follow_one (Swap s)) (players b))) (sym e)
        (times_gone s (players a) other ∙ sym (times_gone s (players b) other)))
        (λ (n : p ≢ s.out). ⊎_elim
        (λ (e : p ≡ s.into). subst (λ q. times q (map (follow_one (Swap s)) (players a)) ≡ times q (map (follow_one (Swap s)) (players b))) (sym e)
        (let x = times_come s (players a) other in let y = times_come s (players b) other in let z = same.players s.into in let w = same.players s.out in omega (arith, x, y, z, w)))
        (λ (m : p ≢ s.into). times_stay s p (players a) n m ∙ same.players p ∙ sym (times_stay s p (players b) n m))
        (cases_eq p s.into))
        (cases_eq p s.out)

-- another order of the same players, each once, at the same prices
price_as : (f : ℕ → ℕ) (p : ℕ) (ps : List ℕ) → price_among p (priced f ps) ≡ cond (nat_eq (times p ps) 0) 0 (f p)
price_as f p [] = refl
price_as f p (q ∷ ps) = ⊎_elim
    (λ (e : q ≡ p).
    let u : nat_eq q p ≡ true = grind (arith, nat_tests) in let v : nat_eq (1 + times p ps) 0 ≡ false = grind (arith, nat_tests) in rw u (rw v (ap f e)))
    (λ (n : q ≢ p).
    let u : nat_eq q p ≡ false = grind (arith, nat_tests) in let v : 0 + times p ps ≡ times p ps = omega arith in rw u (rw v (price_as f p ps)))
    (cases_eq q p)

pub players_as : (f : ℕ → ℕ) (ps : List ℕ) → players (priced f ps) ≡ ps
players_as f [] = refl
players_as f (p ∷ ps) = ap (λ more. p ∷ more) (players_as f ps)

same_order : (f : ℕ → ℕ) (ps qs : List ℕ) → ((p : ℕ) → times p ps ≡ times p qs) → SameHoldings (priced f ps) (priced f qs)
same_order f ps qs same = record {
  players = λ p. ap (times p) (players_as f ps) ∙ same p ∙ sym (ap (times p) (players_as f qs));
  prices = λ p. price_as f p ps ∙ ap (λ n. cond (nat_eq n 0) 0 (f p)) (same p) ∙ sym (price_as f p qs);
}

-- one deed
same_deed : (es : List Event) (g : ℕ) (d : Deed) (base : List Holding) → Sound es → FitsKept es d → is_first d ≡ false → SameHoldings (holdings_of es) base
    → SameHoldings (holdings_of (and_then es g d)) (after_sales (sold_by d) base)
same_deed es g (First squad captain vice) base sound fits first same = cc
same_deed es g (Swap s) base sound fits first same =
    let none : times s.into (order_of es) ≡ 0 = not_in_squad-times es s.into sound fits.1 in
    let one : times s.out (order_of es) ≡ 1 = in_squad-times es s.out sound fits.0 in
    let own : players (holdings_of es) ≡ order_of es = players_as (bought_at es) (order_of es) in
    subst (λ a. SameHoldings a (map (swapped s) base)) (sym (holdings-swap es g s (held_none s.into (bought_at es) (order_of es) none)))
    (same_swap s (holdings_of es) base (ap (times s.out) own ∙ one) (ap (times s.into) own ∙ none) same)
same_deed es g (Lineup ps captain vice) base sound fits first same =
    subst (λ a. SameHoldings a base) (sym (holdings-lineup es g ps captain vice))
    (same_through (priced (bought_at es) ps) (holdings_of es) base (same_order (bought_at es) ps (order_of es) (λ p. lined p (in_squad es p) refl)) same)
  where
    lined : (p : ℕ) (b : Bool) → in_squad es p ≡ b → times p ps ≡ times p (order_of es)
    lined p true e = let k : times p ps ≡ cond (in_squad es p) 1 0 = fits p in (rw e at k) ∙ sym (in_squad-times es p sound e)
    lined p false e = let k : times p ps ≡ cond (in_squad es p) 1 0 = fits p in (rw e at k) ∙ sym (not_in_squad-times es p sound e)
same_deed es g (Play chip) base sound fits first same = subst (λ a. SameHoldings a base) (sym (holdings-play es g chip)) same
same_deed es g Cancel base sound fits first same = subst (λ a. SameHoldings a base) (sym (holdings-cancel es g)) same

after_both : (d : Deed) (sales : List Sale) (base : List Holding) → after_sales (sold_by d ++ sales) base ≡ after_sales sales (after_sales (sold_by d) base)
after_both (First squad captain vice) sales base = refl
after_both (Swap s) sales base = refl
after_both (Lineup ps captain vice) sales base = refl
after_both (Play chip) sales base = refl
after_both Cancel sales base = refl

-- events behind others, none of them First
pub same_after : (before es : List Event) (base : List Holding) → Sound before → KeptFrom before es → Each (λ (e : Event). is_first e.deed ≡ false) es
    → SameHoldings (holdings_of before) base → SameHoldings (holdings_of (before ++ es)) (after_sales (sold es) base)
same_after before [] base sound fits none same = subst (λ (l : List Event). SameHoldings (holdings_of l) base) (sym (append-nil before)) same
same_after before (e ∷ es) base sound fits none same =
    subst (λ b. SameHoldings (holdings_of (before ++ e ∷ es)) b) (sym (after_both e.deed (sold es) base))
    (subst (λ (l : List Event). SameHoldings (holdings_of l) (after_sales (sold es) (after_sales (sold_by e.deed) base))) (push_more before e es)
    (same_after (before ++ e ∷ []) es (after_sales (sold_by e.deed) base) (sound_push before e.gw e.deed sound fits.0) fits.1 none.1
    (same_deed before e.gw e.deed base sound fits.0 none.0 same)))

-- the test finds them the same
pub same_by_test : (a b : List Holding) → SameHoldings a b → are_same_holdings a b ≡ true
same_by_test a b same = rw (all a, all b) refl
  where
    alike : (p : ℕ) → is_alike a b p ≡ true
    alike p = rw (eq-eqb (times p (players a)) (times p (players b)) (same.players p), eq-eqb (price_among p a) (price_among p b) (same.prices p)) refl

    all : (squad : List Holding) → are_alike a b squad ≡ true
    all [] = refl
    all (k ∷ squad) = rw (alike k.player, all squad) refl
