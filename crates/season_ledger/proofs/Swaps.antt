-- The squad as swaps, lineups and chips come.
use Rattle.std.proofs.Common.{◌≡◌, ◌+◌, ◌≢◌, ◌∷◌, [], ◌++◌, ℕ, Bool, true, false, cond, ◌||◌, List, map, arith, refl, sym, ap, ◌∙◌, subst, ⊎_elim, nat_eq}
use Rattle.std.specs.List.{flat_map, AllByRecursion as Each}
use Rattle.std.proofs.lemmas.List.{append-nil, append_assoc}
use Rattle.std.proofs.lemmas.List.Concat.{flat_map-append}
use Rattle.std.proofs.lemmas.Bool.Decides.{nat_tests}
use Rattle.std.proofs.lemmas.Bool.{cases_eq}
use Rattle.rule_book.specs.History.{Holding, Deed, Event, last_of, in_gameweek}
use Rattle.rule_book.specs.HistorySquad.{brought_by, bought_at, named_by, names_order, has_order, after_order, follow_one, follow, order_of, armbands_by, armbands_of, spent, earned, holdings_of}
use Rattle.rule_book.specs.EntryRecords.{swapped, after_sales, price_among, paid_for, earned_for}
use Rattle.season_ledger.specs.Batches.{ComeFresh, rearranged}
use Rattle.rule_book.specs.HistoryTeam.{is_held}
use Rattle.fpl_base.specs.declared.kinds.Chip.{Chip}
use Rattle.rule_book.specs.declared.transfers.Sale.{Sale}
use Rattle.rule_book.specs.History.Deed.{Swap, Lineup, Play, Cancel}
use Rattle.season_ledger.proofs.Lists.{last_of-append, last_of-push}

has_order-push : (es : List Event) (g : ℕ) (d : Deed) → has_order (es ++ record { gw = g; deed = d } ∷ []) ≡ (has_order es || names_order d)
has_order-push [] g d = or_false (names_order d)
  where
    or_false : (a : Bool) → (a || false) ≡ a
    or_false true = refl
    or_false false = refl
has_order-push (e ∷ es) g d = let ih : has_order (es ++ record { gw = g; deed = d } ∷ []) ≡ (has_order es || names_order d) = has_order-push es g d in step (names_order e.deed) (has_order (es ++ record { gw = g; deed = d } ∷ [])) (has_order es) (names_order d) ih
  where
    step : (a b c x : Bool) → b ≡ (c || x) → (a || b) ≡ ((a || c) || x)
    step true b c x e = refl
    step false b c x e = e

-- a deed that names no order follows
pub after_order-none : (es : List Event) (g : ℕ) (d : Deed) → names_order d ≡ false → after_order (es ++ record { gw = g; deed = d } ∷ []) ≡ after_order es ++ record { gw = g; deed = d } ∷ []
after_order-none [] g d n = rw n
after_order-none (e ∷ es) g d n =
    let ih : after_order (es ++ record { gw = g; deed = d } ∷ []) ≡ after_order es ++ record { gw = g; deed = d } ∷ [] = after_order-none es g d n in
    let k : has_order (es ++ record { gw = g; deed = d } ∷ []) ≡ (has_order es || names_order d) = has_order-push es g d in
    rw k (rw n (pick (names_order e.deed) (has_order es) ih))
  where
    pick : (a b : Bool) → after_order (es ++ record { gw = g; deed = d } ∷ []) ≡ after_order es ++ record { gw = g; deed = d } ∷ [] →
        cond (a || (b || false)) (after_order (es ++ record { gw = g; deed = d } ∷ [])) (e ∷ (es ++ record { gw = g; deed = d } ∷ [])) ≡ cond (a || b) (after_order es) (e ∷ es) ++ record { gw = g; deed = d } ∷ []
    pick true b i = i
    pick false true i = i
    pick false false i = refl

-- a deed that names an order starts anew
pub after_order-some : (es : List Event) (g : ℕ) (d : Deed) → names_order d ≡ true → after_order (es ++ record { gw = g; deed = d } ∷ []) ≡ []
after_order-some [] g d n = rw n
after_order-some (e ∷ es) g d n =
    let ih : after_order (es ++ record { gw = g; deed = d } ∷ []) ≡ [] = after_order-some es g d n in
    let k : has_order (es ++ record { gw = g; deed = d } ∷ []) ≡ (has_order es || names_order d) = has_order-push es g d in
    rw k (rw n (pick (names_order e.deed) (has_order es) ih))
  where
    pick : (a b : Bool) → after_order (es ++ record { gw = g; deed = d } ∷ []) ≡ [] → cond (a || (b || true)) (after_order (es ++ record { gw = g; deed = d } ∷ [])) (e ∷ (es ++ record { gw = g; deed = d } ∷ [])) ≡ []
    pick true b i = i
    pick false true i = i
    pick false false i = i

follow-push : (es : List Event) (g : ℕ) (d : Deed) (p : ℕ) → follow (es ++ record { gw = g; deed = d } ∷ []) p ≡ follow_one d (follow es p)
follow-push [] g d p = refl
follow-push (e ∷ es) g d p = follow-push es g d (follow_one e.deed p)

-- the order after a deed that names none
pub order-none : (es : List Event) (g : ℕ) (d : Deed) → names_order d ≡ false → named_by d ≡ [] → order_of (es ++ record { gw = g; deed = d } ∷ []) ≡ map (follow_one d) (order_of es)
order-none es g d n m =
    let a : after_order (es ++ record { gw = g; deed = d } ∷ []) ≡ after_order es ++ record { gw = g; deed = d } ∷ [] = after_order-none es g d n in
    let b : flat_map (λ e. named_by e.deed) (es ++ record { gw = g; deed = d } ∷ []) ≡ flat_map (λ e. named_by e.deed) es =
    flat_map-append (λ e. named_by e.deed) es (record { gw = g; deed = d } ∷ []) ∙ ap (λ r. flat_map (λ e. named_by e.deed) es ++ (r ++ [])) m ∙ append-nil _ in
    rw (a, b) (moved (after_order es) (last_of [] (flat_map (λ e. named_by e.deed) es)))
  where
    moved : (later : List Event) (ps : List ℕ) → map (follow (later ++ record { gw = g; deed = d } ∷ [])) ps ≡ map (follow_one d) (map (follow later) ps)
    moved later [] = refl
    moved later (p ∷ ps) = let e : follow (later ++ record { gw = g; deed = d } ∷ []) p ≡ follow_one d (follow later p) = follow-push later g d p in let f : map (follow (later ++ record { gw = g; deed = d } ∷ [])) ps ≡ map (follow_one d) (map (follow later) ps) = moved later ps in cc

-- the order after a deed that names one
pub order-some : (es : List Event) (g : ℕ) (d : Deed) (ps : List ℕ) → names_order d ≡ true → named_by d ≡ ps ∷ [] → order_of (es ++ record { gw = g; deed = d } ∷ []) ≡ ps
order-some es g d ps n m =
    let a : after_order (es ++ record { gw = g; deed = d } ∷ []) ≡ [] = after_order-some es g d n in
    let b : flat_map (λ e. named_by e.deed) (es ++ record { gw = g; deed = d } ∷ []) ≡ flat_map (λ e. named_by e.deed) es ++ ps ∷ [] =
    flat_map-append (λ e. named_by e.deed) es (record { gw = g; deed = d } ∷ []) ∙ ap (λ r. flat_map (λ e. named_by e.deed) es ++ (r ++ [])) m in
    rw (a, b) (same (last_of [] (flat_map (λ e. named_by e.deed) es ++ ps ∷ [])) ∙ last_of-push [] (flat_map (λ e. named_by e.deed) es) ps)
  where
    same : (xs : List ℕ) → map (follow []) xs ≡ xs
    same [] = refl
    same (x ∷ xs) = ap (λ r. x ∷ r) (same xs)

-- prices after a deed
pub bought-push : (es : List Event) (g : ℕ) (d : Deed) (p : ℕ) → bought_at (es ++ record { gw = g; deed = d } ∷ []) p ≡ last_of (bought_at es p) (brought_by p d)
bought-push es g d p = ap (last_of 0) (flat_map-append (λ e. brought_by p e.deed) es (record { gw = g; deed = d } ∷ []) ∙ ap (λ r. flat_map (λ e. brought_by p e.deed) es ++ r) (append-nil (brought_by p d))) ∙ last_of-append 0 (flat_map (λ e. brought_by p e.deed) es) (brought_by p d)

no_one : (p : ℕ) (f : ℕ → ℕ) (ps : List ℕ) → is_held p (map (λ q. record { player = q; bought = f q }) ps) ≡ false → Each (λ q. q ≢ p) ps
no_one p f [] h = tt
no_one p f (q ∷ ps) h = ((grind (arith, nat_tests)), no_one p f ps (right (nat_eq q p) (is_held p (map (λ q. record { player = q; bought = f q }) ps)) h))
  where
    right : (a b : Bool) → (a || b) ≡ false → b ≡ false
    right true b h = cc
    right false b h = h

step_pick : (es : List Event) (g : ℕ) (s : Sale) (p : ℕ) → p ≢ s.into
    → (let q = follow_one (Swap s) p in let k : Holding = record { player = q; bought = bought_at (es ++ record { gw = g; deed = Swap s } ∷ []) q } in k) ≡ swapped s (record { player = p; bought = bought_at es p })
step_pick es g s p ne =
    elim (nat_eq p s.out) as (λ b. (let q = cond b s.into p in let k : Holding = record { player = q; bought = bought_at (es ++ record { gw = g; deed = Swap s } ∷ []) q } in k) ≡ cond b (record { player = s.into; bought = s.bought }) (record { player = p; bought = bought_at es p })) [
      | true ↦ (let e : nat_eq s.into s.into ≡ true = grind (arith, nat_tests) in rw (bought-push es g (Swap s) s.into) (rw e refl))
      | false ↦ (let e : nat_eq s.into p ≡ false = grind (arith, nat_tests) in rw (bought-push es g (Swap s) p) (rw e refl))
    ]

-- the picks after one sale
pub holdings-swap : (es : List Event) (g : ℕ) (s : Sale) → is_held s.into (holdings_of es) ≡ false → holdings_of (es ++ record { gw = g; deed = Swap s } ∷ []) ≡ map (swapped s) (holdings_of es)
holdings-swap es g s fresh = ap (map {B = Holding} (λ p. record { player = p; bought = bought_at (es ++ record { gw = g; deed = Swap s } ∷ []) p })) (order-none es g (Swap s) refl refl)
    ∙ walk (order_of es) (no_one s.into (bought_at es) (order_of es) fresh)
  where
    walk : (ps : List ℕ) → Each (λ q. q ≢ s.into) ps
        → map (λ p. record { player = p; bought = bought_at (es ++ record { gw = g; deed = Swap s } ∷ []) p }) (map (follow_one (Swap s)) ps) ≡ map (swapped s) (map (λ p. record { player = p; bought = bought_at es p }) ps)
    walk [] n = refl
    walk (p ∷ ps) n = let t : (let q = follow_one (Swap s) p in let k : Holding = record { player = q; bought = bought_at (es ++ record { gw = g; deed = Swap s } ∷ []) q } in k) ≡ swapped s (record { player = p; bought = bought_at es p }) = step_pick es g s p n.0 in let r : map (λ p. record { player = p; bought = bought_at (es ++ record { gw = g; deed = Swap s } ∷ []) p }) (map (follow_one (Swap s)) ps) ≡ map (swapped s) (map (λ p. record { player = p; bought = bought_at es p }) ps) = walk ps n.1 in ap (λ x. x ∷ map (λ p. record { player = p; bought = bought_at (es ++ record { gw = g; deed = Swap s } ∷ []) p }) (map (follow_one (Swap s)) ps)) t ∙ ap (λ xs. swapped s (record { player = p; bought = bought_at es p }) ∷ xs) r

pub push_more : (es : List Event) (e : Event) (ks : List Event) → (es ++ e ∷ []) ++ ks ≡ es ++ e ∷ ks
push_more es e ks = append_assoc es (e ∷ []) ks

-- the picks after a batch
pub holdings-batch : (es : List Event) (g : ℕ) (ss : List Sale) → ComeFresh ss (holdings_of es) → holdings_of (es ++ in_gameweek g (map Swap ss)) ≡ after_sales ss (holdings_of es)
holdings-batch es g [] h = ap holdings_of (append-nil es)
holdings-batch es g (s ∷ ss) h =
    let e : holdings_of (es ++ record { gw = g; deed = Swap s } ∷ []) ≡ map (swapped s) (holdings_of es) = holdings-swap es g s h.0 in
    let fresh : ComeFresh ss (holdings_of (es ++ record { gw = g; deed = Swap s } ∷ [])) = subst (ComeFresh ss) (sym e) h.1 in
    ap holdings_of (sym (push_more es (record { gw = g; deed = Swap s }) (in_gameweek g (map Swap ss)))) ∙ holdings-batch (es ++ record { gw = g; deed = Swap s } ∷ []) g ss fresh ∙ ap (after_sales ss) e

-- the armbands stay with their slots
pub armbands-batch : (es : List Event) (g : ℕ) (ss : List Sale) → armbands_of (es ++ in_gameweek g (map Swap ss)) ≡ armbands_of es
armbands-batch es g ss = ap (last_of (0, 0)) (flat_map-append (λ e. armbands_by e.deed) es (in_gameweek g (map Swap ss)) ∙ ap (λ r. flat_map (λ e. armbands_by e.deed) es ++ r) (none ss) ∙ append-nil _)
  where
    none : (ss : List Sale) → flat_map (λ e. armbands_by e.deed) (in_gameweek g (map Swap ss)) ≡ []
    none [] = refl
    none (s ∷ ss) = none ss

pub spent-append : (es ks : List Event) → spent (es ++ ks) ≡ spent es + spent ks
spent-append [] ks = omega arith
spent-append (e ∷ es) ks = let ih : spent (es ++ ks) ≡ spent es + spent ks = spent-append es ks in omega arith

pub earned-append : (es ks : List Event) → earned (es ++ ks) ≡ earned es + earned ks
earned-append [] ks = omega arith
earned-append (e ∷ es) ks = let ih : earned (es ++ ks) ≡ earned es + earned ks = earned-append es ks in omega arith

-- what a batch pays and earns
pub batch_paid : (g : ℕ) (ss : List Sale) → spent (in_gameweek g (map Swap ss)) ≡ paid_for ss
batch_paid g [] = refl
batch_paid g (s ∷ ss) = let ih : spent (in_gameweek g (map Swap ss)) ≡ paid_for ss = batch_paid g ss in cc

pub batch_earned : (g : ℕ) (ss : List Sale) → earned (in_gameweek g (map Swap ss)) ≡ earned_for ss
batch_earned g [] = refl
batch_earned g (s ∷ ss) = let ih : earned (in_gameweek g (map Swap ss)) ≡ earned_for ss = batch_earned g ss in cc

-- the picks after a lineup: its players, with the prices that they have
pub holdings-lineup : (es : List Event) (g : ℕ) (ps : List ℕ) (captain vice : ℕ) → holdings_of (es ++ record { gw = g; deed = Lineup ps captain vice } ∷ []) ≡ map {B = Holding} (λ p. record { player = p; bought = bought_at es p }) ps
holdings-lineup es g ps captain vice = ap (map {B = Holding} (λ p. record { player = p; bought = bought_at (es ++ record { gw = g; deed = Lineup ps captain vice } ∷ []) p })) (order-some es g (Lineup ps captain vice) ps refl refl)
    ∙ same ps
  where
    same : (qs : List ℕ) → map {B = Holding} (λ p. record { player = p; bought = bought_at (es ++ record { gw = g; deed = Lineup ps captain vice } ∷ []) p }) qs ≡ map {B = Holding} (λ p. record { player = p; bought = bought_at es p }) qs
    same [] = refl
    same (q ∷ qs) = let r : map {B = Holding} (λ p. record { player = p; bought = bought_at (es ++ record { gw = g; deed = Lineup ps captain vice } ∷ []) p }) qs ≡ map {B = Holding} (λ p. record { player = p; bought = bought_at es p }) qs = same qs in
        let b : bought_at (es ++ record { gw = g; deed = Lineup ps captain vice } ∷ []) q ≡ bought_at es q = bought-push es g (Lineup ps captain vice) q in rw b (ap (λ xs. record { player = q; bought = bought_at es q } ∷ xs) r)

-- the price of a held player is his price among the picks
pub price_among-picks : (f : ℕ → ℕ) (ps : List ℕ) (p : ℕ) → is_held p (map (λ q. record { player = q; bought = f q }) ps) ≡ true → price_among p (map (λ q. record { player = q; bought = f q }) ps) ≡ f p
price_among-picks f [] p h = cc
price_among-picks f (q ∷ ps) p h = ⊎_elim
    (λ (e : q ≡ p). let t : nat_eq q p ≡ true = grind (arith, nat_tests) in rw t (ap f e))
    (λ (n : q ≢ p). let t : nat_eq q p ≡ false = grind (arith, nat_tests) in rw t (price_among-picks f ps p (rw t at h)))
    (cases_eq q p)

pub holdings-rearranged : (es : List Event) (g : ℕ) (ps : List ℕ) (captain vice : ℕ) → Each (λ p. is_held p (holdings_of es) ≡ true) ps
    → holdings_of (es ++ record { gw = g; deed = Lineup ps captain vice } ∷ []) ≡ rearranged ps (holdings_of es)
holdings-rearranged es g ps captain vice h = holdings-lineup es g ps captain vice ∙ same ps h
  where
    same : (qs : List ℕ) → Each (λ p. is_held p (holdings_of es) ≡ true) qs → map {B = Holding} (λ p. record { player = p; bought = bought_at es p }) qs ≡ rearranged qs (holdings_of es)
    same [] h = refl
    same (q ∷ qs) h = let e : price_among q (holdings_of es) ≡ bought_at es q = price_among-picks (bought_at es) (order_of es) q h.0 in let r : map {B = Holding} (λ p. record { player = p; bought = bought_at es p }) qs ≡ rearranged qs (holdings_of es) = same qs h.1 in rw e (ap (λ xs. record { player = q; bought = bought_at es q } ∷ xs) r)

-- a chip leaves the picks
pub holdings-play : (es : List Event) (g : ℕ) (chip : Chip) → holdings_of (es ++ record { gw = g; deed = Play chip } ∷ []) ≡ holdings_of es
holdings-play es g chip = ap (map {B = Holding} (λ p. record { player = p; bought = bought_at (es ++ record { gw = g; deed = Play chip } ∷ []) p })) (order-none es g (Play chip) refl refl)
    ∙ same (order_of es)
  where
    same : (qs : List ℕ) → map {B = Holding} (λ p. record { player = p; bought = bought_at (es ++ record { gw = g; deed = Play chip } ∷ []) p }) (map (follow_one (Play chip)) qs) ≡ map {B = Holding} (λ p. record { player = p; bought = bought_at es p }) qs
    same [] = refl
    same (q ∷ qs) = let r : map {B = Holding} (λ p. record { player = p; bought = bought_at (es ++ record { gw = g; deed = Play chip } ∷ []) p }) (map (follow_one (Play chip)) qs) ≡ map {B = Holding} (λ p. record { player = p; bought = bought_at es p }) qs = same qs in
        let b : bought_at (es ++ record { gw = g; deed = Play chip } ∷ []) q ≡ bought_at es q = bought-push es g (Play chip) q in rw b (ap (λ xs. record { player = q; bought = bought_at es q } ∷ xs) r)

pub holdings-cancel : (es : List Event) (g : ℕ) → holdings_of (es ++ record { gw = g; deed = Cancel } ∷ []) ≡ holdings_of es
holdings-cancel es g = ap (map {B = Holding} (λ p. record { player = p; bought = bought_at (es ++ record { gw = g; deed = Cancel } ∷ []) p })) (order-none es g Cancel refl refl)
    ∙ same (order_of es)
  where
    same : (qs : List ℕ) → map {B = Holding} (λ p. record { player = p; bought = bought_at (es ++ record { gw = g; deed = Cancel } ∷ []) p }) (map (follow_one Cancel) qs) ≡ map {B = Holding} (λ p. record { player = p; bought = bought_at es p }) qs
    same [] = refl
    same (q ∷ qs) = let r : map {B = Holding} (λ p. record { player = p; bought = bought_at (es ++ record { gw = g; deed = Cancel } ∷ []) p }) (map (follow_one Cancel) qs) ≡ map {B = Holding} (λ p. record { player = p; bought = bought_at es p }) qs = same qs in
        let b : bought_at (es ++ record { gw = g; deed = Cancel } ∷ []) q ≡ bought_at es q = bought-push es g Cancel q in rw b (ap (λ xs. record { player = q; bought = bought_at es q } ∷ xs) r)

pub armbands-push : (es : List Event) (g : ℕ) (d : Deed) → armbands_of (es ++ record { gw = g; deed = d } ∷ []) ≡ last_of (armbands_of es) (armbands_by d)
armbands-push es g d = ap (last_of (0, 0)) (flat_map-append (λ e. armbands_by e.deed) es (record { gw = g; deed = d } ∷ []) ∙ ap (λ r. flat_map (λ e. armbands_by e.deed) es ++ r) (append-nil (armbands_by d))) ∙ last_of-append (0, 0) (flat_map (λ e. armbands_by e.deed) es) (armbands_by d)
