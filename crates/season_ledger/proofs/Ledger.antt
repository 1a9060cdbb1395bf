-- What was paid and earned, and what the fifteen cost.
use Rattle.std.proofs.Common.{◌≡◌, ◌<◌, ◌≤◌, ◌+◌, ◌≢◌, ◌∷◌, [], ◌++◌, ℕ, Bool, true, false, cond, List, map, arith, refl, sym, ap, ◌∙◌, subst, ⊎_elim, nat_eq}
use Rattle.std.specs.List.{AllByRecursion as Each}
use Rattle.std.proofs.lemmas.List.{append-nil}
use Rattle.std.proofs.lemmas.Bool.Decides.{nat_tests}
use Rattle.std.proofs.lemmas.Bool.{cases_eq}
use Rattle.rule_book.specs.History.{Holding, Deed, Event, last_of}
use Rattle.rule_book.specs.HistorySquad.{prices_among, bought_at, order_of, holdings_of, spent, paid_by, sum_bought, in_squad, given_by, given_up}
use Rattle.rule_book.specs.EntryRecords.{swapped}
use Rattle.rule_book.specs.HistoryTeam.{is_held}
use Rattle.rule_book.specs.HistoryRules.{times, FitsKept}
use Rattle.rule_book.specs.declared.transfers.Sale.{Sale}
use Rattle.rule_book.specs.History.Deed.{First, Swap, Lineup, Play, Cancel}
use Rattle.season_ledger.proofs.Lists.{each_weaker}
use Rattle.season_ledger.proofs.Swaps.{order-some, holdings-swap, holdings-lineup, holdings-play, holdings-cancel, spent-append, push_more}
use Rattle.season_ledger.proofs.Counted.{Sound, in_squad-times, not_in_squad-times, sound_push, KeptFrom}

-- the picks of players by prices
abbrev pub priced : (ℕ → ℕ) → List ℕ → List Holding
priced f ps = map (λ p. record { player = p; bought = f p }) ps

pub held_none : (p : ℕ) (f : ℕ → ℕ) (ps : List ℕ) → times p ps ≡ 0 → is_held p (priced f ps) ≡ false
held_none p f [] t = refl
held_none p f (q ∷ ps) t = ⊎_elim
    (λ (e : q ≡ p). let u : nat_eq q p ≡ true = grind (arith, nat_tests) in let k : 1 + times p ps ≡ 0 = rw u at t in absurd (omega arith))
    (λ (n : q ≢ p). let u : nat_eq q p ≡ false = grind (arith, nat_tests) in let k : 0 + times p ps ≡ 0 = rw u at t in rw u (held_none p f ps (omega arith)))
    (cases_eq q p)

-- a sold player's price goes and the incomer's comes
sum_same : (s : Sale) (f : ℕ → ℕ) (ps : List ℕ) → times s.out ps ≡ 0 → sum_bought (map (swapped s) (priced f ps)) ≡ sum_bought (priced f ps)
sum_same s f [] t = refl
sum_same s f (q ∷ ps) t = ⊎_elim
    (λ (e : q ≡ s.out). let u : nat_eq q s.out ≡ true = grind (arith, nat_tests) in let k : 1 + times s.out ps ≡ 0 = rw u at t in absurd (omega arith))
    (λ (n : q ≢ s.out). let u : nat_eq q s.out ≡ false = grind (arith, nat_tests) in let k : 0 + times s.out ps ≡ 0 = rw u at t in let i : sum_bought (map (swapped s) (priced f ps)) ≡ sum_bought (priced f ps) = sum_same s f ps (omega arith) in rw u (ap (λ m. f q + m) i))
    (cases_eq q s.out)

sum_swap : (s : Sale) (f : ℕ → ℕ) (ps : List ℕ) → times s.out ps ≡ 1 → sum_bought (map (swapped s) (priced f ps)) + f s.out ≡ sum_bought (priced f ps) + s.bought
sum_swap s f [] t = absurd (omega arith)
sum_swap s f (q ∷ ps) t = ⊎_elim
    (λ (e : q ≡ s.out). let u : nat_eq q s.out ≡ true = grind (arith, nat_tests) in let k : 1 + times s.out ps ≡ 1 = rw u at t in
    let i : sum_bought (map (swapped s) (priced f ps)) ≡ sum_bought (priced f ps) = sum_same s f ps (omega arith) in let v : f q ≡ f s.out = ap f e in rw u (omega arith))
    (λ (n : q ≢ s.out). let u : nat_eq q s.out ≡ false = grind (arith, nat_tests) in let k : 0 + times s.out ps ≡ 1 = rw u at t in
    let i : sum_bought (map (swapped s) (priced f ps)) + f s.out ≡ sum_bought (priced f ps) + s.bought = sum_swap s f ps (omega arith) in rw u (omega arith))
    (cases_eq q s.out)

-- one of a player taken away
unfoldable pub without : ℕ → List ℕ → List ℕ
without p [] = []
without p (q ∷ ps) = cond (nat_eq q p) ps (q ∷ without p ps)

sum_without : (f : ℕ → ℕ) (p : ℕ) (ps : List ℕ) → 0 < times p ps → sum_bought (priced f ps) ≡ f p + sum_bought (priced f (without p ps))
unfolding without
sum_without f p [] t = absurd (omega arith)
sum_without f p (q ∷ ps) t = ⊎_elim
    (λ (e : q ≡ p). let u : nat_eq q p ≡ true = grind (arith, nat_tests) in rw u (ap (λ r. f r + sum_bought (priced f ps)) e))
    (λ (n : q ≢ p). let u : nat_eq q p ≡ false = grind (arith, nat_tests) in let k : 0 < 0 + times p ps = rw u at t in
    let i : sum_bought (priced f ps) ≡ f p + sum_bought (priced f (without p ps)) = sum_without f p ps (omega arith) in rw u (omega arith))
    (cases_eq q p)

pub times_without : (p r : ℕ) (ps : List ℕ) → 0 < times p ps → times r ps ≡ cond (nat_eq p r) 1 0 + times r (without p ps)
unfolding without
times_without p r [] t = absurd (omega arith)
times_without p r (q ∷ ps) t = ⊎_elim
    (λ (e : q ≡ p). let u : nat_eq q p ≡ true = grind (arith, nat_tests) in rw u (ap (λ x. cond (nat_eq x r) 1 0 + times r ps) e))
    (λ (n : q ≢ p). let u : nat_eq q p ≡ false = grind (arith, nat_tests) in let k : 0 < 0 + times p ps = rw u at t in
    let i : times r ps ≡ cond (nat_eq p r) 1 0 + times r (without p ps) = times_without p r ps (omega arith) in rw u (omega arith))
    (cases_eq q p)

-- the same players cost the same
sum_lined : (f : ℕ → ℕ) (ps qs : List ℕ) → ((p : ℕ) → times p ps ≡ times p qs) → sum_bought (priced f ps) ≡ sum_bought (priced f qs)
sum_lined f [] [] e = refl
sum_lined f [] (q ∷ qs) e = let k : 0 ≡ cond (nat_eq q q) 1 0 + times q qs = e q in let u : nat_eq q q ≡ true = grind (arith, nat_tests) in let m : 0 ≡ 1 + times q qs = rw u at k in absurd (omega arith)
sum_lined f (p ∷ ps) qs e =
    let u : nat_eq p p ≡ true = grind (arith, nat_tests) in
    let k : cond (nat_eq p p) 1 0 + times p ps ≡ times p qs = e p in
    let m : 1 + times p ps ≡ times p qs = rw u at k in
    let t : 0 < times p qs = omega arith in
    let rest : (r : ℕ) → times r ps ≡ times r (without p qs) = λ r. (let a : cond (nat_eq p r) 1 0 + times r ps ≡ times r qs = e r in let b : times r qs ≡ cond (nat_eq p r) 1 0 + times r (without p qs) = times_without p r qs t in omega arith) in
    let i : sum_bought (priced f ps) ≡ sum_bought (priced f (without p qs)) = sum_lined f ps (without p qs) rest in
    ap (λ n. f p + n) i ∙ sym (sum_without f p qs t)

spent-push : (es : List Event) (g : ℕ) (d : Deed) → spent (es ++ record { gw = g; deed = d } ∷ []) ≡ spent es + paid_by d
spent-push es g d = let e : spent (es ++ record { gw = g; deed = d } ∷ []) ≡ spent es + (paid_by d + 0) = spent-append es (record { gw = g; deed = d } ∷ []) in omega arith

price_none : (p : ℕ) (picks : List Holding) → times p (map (λ k. k.player) picks) ≡ 0 → prices_among p picks ≡ []
price_none p [] t = refl
price_none p (k ∷ picks) t = ⊎_elim
    (λ (e : k.player ≡ p). let u : nat_eq k.player p ≡ true = grind (arith, nat_tests) in let m : 1 + times p (map (λ k. k.player) picks) ≡ 0 = rw u at t in absurd (omega arith))
    (λ (n : k.player ≢ p). let u : nat_eq k.player p ≡ false = grind (arith, nat_tests) in let m : 0 + times p (map (λ k. k.player) picks) ≡ 0 = rw u at t in rw u (price_none p picks (omega arith)))
    (cases_eq k.player p)

there : (picks : List Holding) → Each (λ k. 0 < times k.player (map (λ j. j.player) picks)) picks
there [] = tt
there (k ∷ picks) = ((let u : nat_eq k.player k.player ≡ true = grind (arith, nat_tests) in rw u (omega arith)), each_weaker (λ (j : Holding). 0 < times j.player (map (λ i. i.player) picks)) (λ (j : Holding). 0 < times j.player (map (λ i. i.player) (k ∷ picks))) (λ j t. (omega arith)) picks (there picks))

each_price : (picks : List Holding) → ((p : ℕ) → times p (map (λ k. k.player) picks) ≤ 1) → Each (λ k. last_of 0 (prices_among k.player picks) ≡ k.bought) picks
each_price [] a = tt
each_price (k ∷ picks) a = (own, others picks (there picks) (each_price picks (λ p. (let b = a p in omega (arith, b)))))
  where
    own : last_of 0 (prices_among k.player (k ∷ picks)) ≡ k.bought
    own = let u : nat_eq k.player k.player ≡ true = grind (arith, nat_tests) in let b : cond (nat_eq k.player k.player) 1 0 + times k.player (map (λ j. j.player) picks) ≤ 1 = a k.player in
        let c : 1 + times k.player (map (λ j. j.player) picks) ≤ 1 = rw u at b in let z : prices_among k.player picks ≡ [] = price_none k.player picks (omega arith) in rw (u, z) refl

    others : (js : List Holding) → Each (λ j. 0 < times j.player (map (λ i. i.player) picks)) js → Each (λ j. last_of 0 (prices_among j.player picks) ≡ j.bought) js → Each (λ j. last_of 0 (prices_among j.player (k ∷ picks)) ≡ j.bought) js
    others [] t e = tt
    others (j ∷ js) t e = ((let b : cond (nat_eq k.player j.player) 1 0 + times j.player (map (λ i. i.player) picks) ≤ 1 = a j.player in let u : nat_eq k.player j.player ≡ false = not_one (nat_eq k.player j.player) (times j.player (map (λ i. i.player) picks)) b t.0 in rw u e.0), others js t.1 e.1)
      where
        not_one : (b : Bool) (n : ℕ) → cond b 1 0 + n ≤ 1 → 0 < n → b ≡ false
        not_one true n l m = absurd (omega arith)
        not_one false n l m = refl

-- the picks after First
pub holdings-first : (g : ℕ) (picks : List Holding) (captain vice : ℕ) → ((p : ℕ) → times p (map (λ k. k.player) picks) ≤ 1) → holdings_of (record { gw = g; deed = First picks captain vice } ∷ []) ≡ picks
holdings-first g picks captain vice a = ap (map {B = Holding} (λ p. record { player = p; bought = bought_at (record { gw = g; deed = First picks captain vice } ∷ []) p })) (order-some [] g (First picks captain vice) (map (λ k. k.player) picks) refl refl)
    ∙ walk picks (each_price picks a)
  where
    walk : (js : List Holding) → Each (λ k. last_of 0 (prices_among k.player picks) ≡ k.bought) js → map {B = Holding} (λ p. record { player = p; bought = bought_at (record { gw = g; deed = First picks captain vice } ∷ []) p }) (map (λ k. k.player) js) ≡ js
    walk [] e = refl
    walk (j ∷ js) e = let i : map {B = Holding} (λ p. record { player = p; bought = bought_at (record { gw = g; deed = First picks captain vice } ∷ []) p }) (map (λ k. k.player) js) ≡ js = walk js e.1 in
        let b : bought_at (record { gw = g; deed = First picks captain vice } ∷ []) j.player ≡ j.bought = ap (last_of 0) (append-nil (prices_among j.player picks)) ∙ e.0 in rw (b, i) refl

-- what the fifteen cost and what was given up is what was spent
ledger_push : (es : List Event) (g : ℕ) (d : Deed) (x : ℕ) → Sound es → FitsKept es d → sum_bought (holdings_of es) + x ≡ spent es
    → sum_bought (holdings_of (es ++ record { gw = g; deed = d } ∷ [])) + (x + given_by es d) ≡ spent (es ++ record { gw = g; deed = d } ∷ [])
ledger_push es g (First picks captain vice) x so f e =
    let z : sum_bought (holdings_of []) + x ≡ spent [] = subst (λ (l : List Event). sum_bought (holdings_of l) + x ≡ spent l) f.0 e in
    let a : holdings_of (record { gw = g; deed = First picks captain vice } ∷ []) ≡ picks = holdings-first g picks captain vice f.1 in
    let b : sum_bought (holdings_of (record { gw = g; deed = First picks captain vice } ∷ [])) + (x + 0) ≡ sum_bought picks + 0 = rw a (omega arith) in
    subst (λ (l : List Event). sum_bought (holdings_of (l ++ record { gw = g; deed = First picks captain vice } ∷ [])) + (x + 0) ≡ spent (l ++ record { gw = g; deed = First picks captain vice } ∷ [])) (sym f.0) b
ledger_push es g (Swap s) x so f e =
    let one : times s.out (order_of es) ≡ 1 = in_squad-times es s.out so f.0 in
    let none : times s.into (order_of es) ≡ 0 = not_in_squad-times es s.into so f.1 in
    let a : holdings_of (es ++ record { gw = g; deed = Swap s } ∷ []) ≡ map (swapped s) (holdings_of es) = holdings-swap es g s (held_none s.into (bought_at es) (order_of es) none) in
    let b : sum_bought (map (swapped s) (holdings_of es)) + bought_at es s.out ≡ sum_bought (holdings_of es) + s.bought = sum_swap s (bought_at es) (order_of es) one in
    let c : spent (es ++ record { gw = g; deed = Swap s } ∷ []) ≡ spent es + s.bought = spent-push es g (Swap s) in
    rw (a, c) (omega arith)
ledger_push es g (Lineup ps captain vice) x so f e =
    let a : holdings_of (es ++ record { gw = g; deed = Lineup ps captain vice } ∷ []) ≡ priced (bought_at es) ps = holdings-lineup es g ps captain vice in
    let b : sum_bought (priced (bought_at es) ps) ≡ sum_bought (holdings_of es) = sum_lined (bought_at es) ps (order_of es) (λ p. lined p (in_squad es p) refl) in
    let c : spent (es ++ record { gw = g; deed = Lineup ps captain vice } ∷ []) ≡ spent es + 0 = spent-push es g (Lineup ps captain vice) in
    rw (a, c) (omega arith)
  where
    lined : (p : ℕ) (b : Bool) → in_squad es p ≡ b → times p ps ≡ times p (order_of es)
    lined p true e = let k : times p ps ≡ cond (in_squad es p) 1 0 = f p in let t : times p (order_of es) ≡ 1 = in_squad-times es p so e in (rw e at k) ∙ sym t
    lined p false e = let k : times p ps ≡ cond (in_squad es p) 1 0 = f p in let t : times p (order_of es) ≡ 0 = not_in_squad-times es p so e in (rw e at k) ∙ sym t
ledger_push es g (Play chip) x so f e = let a : holdings_of (es ++ record { gw = g; deed = Play chip } ∷ []) ≡ holdings_of es = holdings-play es g chip in let c : spent (es ++ record { gw = g; deed = Play chip } ∷ []) ≡ spent es + 0 = spent-push es g (Play chip) in rw (a, c) (omega arith)
ledger_push es g Cancel x so f e = let a : holdings_of (es ++ record { gw = g; deed = Cancel } ∷ []) ≡ holdings_of es = holdings-cancel es g in let c : spent (es ++ record { gw = g; deed = Cancel } ∷ []) ≡ spent es + 0 = spent-push es g Cancel in rw (a, c) (omega arith)

pub ledger_from : (before es : List Event) (x : ℕ) → Sound before → KeptFrom before es → sum_bought (holdings_of before) + x ≡ spent before
    → sum_bought (holdings_of (before ++ es)) + (x + given_up before es) ≡ spent (before ++ es)
ledger_from before [] x s k e = rw append-nil (omega arith)
ledger_from before (v ∷ es) x s k e =
    let one : sum_bought (holdings_of (before ++ v ∷ [])) + (x + given_by before v.deed) ≡ spent (before ++ v ∷ []) = ledger_push before v.gw v.deed x s k.0 e in
    let rest : sum_bought (holdings_of ((before ++ v ∷ []) ++ es)) + ((x + given_by before v.deed) + given_up (before ++ v ∷ []) es) ≡ spent ((before ++ v ∷ []) ++ es) = ledger_from (before ++ v ∷ []) es (x + given_by before v.deed) (sound_push before v.gw v.deed s k.0) k.1 one in
    let moved : sum_bought (holdings_of (before ++ v ∷ es)) + ((x + given_by before v.deed) + given_up (before ++ v ∷ []) es) ≡ spent (before ++ v ∷ es) = subst (λ (l : List Event). sum_bought (holdings_of l) + ((x + given_by before v.deed) + given_up (before ++ v ∷ []) es) ≡ spent l) (push_more before v es) rest in
    omega arith

pub ledger_all : (es : List Event) → KeptFrom [] es → sum_bought (holdings_of es) + given_up [] es ≡ spent es
ledger_all es k = let e : sum_bought (holdings_of es) + (0 + given_up [] es) ≡ spent es = ledger_from [] es 0 (record { counted = λ p. refl; apart = λ p. (omega arith) }) k refl in omega arith
