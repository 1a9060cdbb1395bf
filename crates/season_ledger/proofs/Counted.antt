-- The order's players are those counted in.
use Rattle.std.proofs.Common.{◌≡◌, ◌≤◌, ◌+◌, ◌≢◌, ◌⊎◌, ◌∷◌, [], ◌++◌, ℕ, suc, Bool, true, false, cond, List, length, map, arith, refl, sym, ap, ◌∙◌, subst, inl, inr, ⊎_elim, nat_eq, length-append}
use Rattle.std.specs.List.{flat_map}
use Rattle.std.proofs.lemmas.List.{append-nil}
use Rattle.std.proofs.lemmas.List.Concat.{flat_map-append}
use Rattle.std.proofs.lemmas.Bool.Decides.{nat_tests}
use Rattle.std.proofs.lemmas.Bool.{cases_eq}
use Rattle.rule_book.specs.History.{Holding, Deed, Event}
use Rattle.rule_book.specs.HistorySquad.{prices_among, brought_by, taken_by, ins, outs, follow_one, order_of, in_squad}
use Rattle.rule_book.specs.HistoryRules.{times, FitsKept}
use Rattle.rule_book.specs.declared.transfers.Sale.{Sale}
use Rattle.rule_book.specs.History.Deed.{First, Swap, Lineup, Play, Cancel}
use Rattle.season_ledger.proofs.Swaps.{order-none, order-some, push_more}

ins-push : (es : List Event) (g : ℕ) (d : Deed) (p : ℕ) → ins p (es ++ record { gw = g; deed = d } ∷ []) ≡ ins p es + length (brought_by p d)
ins-push es g d p = ap length (flat_map-append (λ e. brought_by p e.deed) es (record { gw = g; deed = d } ∷ []) ∙ ap (λ r. flat_map (λ e. brought_by p e.deed) es ++ r) (append-nil (brought_by p d))) ∙ length-append (flat_map (λ e. brought_by p e.deed) es) (brought_by p d)

outs-push : (es : List Event) (g : ℕ) (d : Deed) (p : ℕ) → outs p (es ++ record { gw = g; deed = d } ∷ []) ≡ outs p es + length (taken_by p d)
outs-push es g d p = ap length (flat_map-append (λ e. taken_by p e.deed) es (record { gw = g; deed = d } ∷ []) ∙ ap (λ r. flat_map (λ e. taken_by p e.deed) es ++ r) (append-nil (taken_by p d))) ∙ length-append (flat_map (λ e. taken_by p e.deed) es) (taken_by p d)

-- who stands in the order is counted in, once
pub record Sound (es : List Event) : Type 0 where
  pub counted : (p : ℕ) → ins p es ≡ outs p es + times p (order_of es)
  pub apart : (p : ℕ) → times p (order_of es) ≤ 1

pub in_squad-times : (es : List Event) (p : ℕ) → Sound es → in_squad es p ≡ true → times p (order_of es) ≡ 1
in_squad-times es p s y = let c : ins p es ≡ outs p es + times p (order_of es) = s.counted p in let e : ins p es ≡ outs p es + 1 = grind (arith, nat_tests) in omega arith

pub not_in_squad-times : (es : List Event) (p : ℕ) → Sound es → in_squad es p ≡ false → times p (order_of es) ≡ 0
not_in_squad-times es p s y = let c : ins p es ≡ outs p es + times p (order_of es) = s.counted p in let a : times p (order_of es) ≤ 1 = s.apart p in let e : ins p es ≢ outs p es + 1 = grind (arith, nat_tests) in omega arith

-- the times of a player after a swap
pub times_gone : (s : Sale) (ps : List ℕ) → s.out ≢ s.into → times s.out (map (follow_one (Swap s)) ps) ≡ 0
times_gone s [] ne = refl
times_gone s (q ∷ ps) ne = let ih : times s.out (map (follow_one (Swap s)) ps) ≡ 0 = times_gone s ps ne in ⊎_elim
    (λ (e : q ≡ s.out). let t : nat_eq q s.out ≡ true = grind (arith, nat_tests) in let u : nat_eq s.into s.out ≡ false = grind (arith, nat_tests) in rw t (rw (u, ih) refl))
    (λ (n : q ≢ s.out). let t : nat_eq q s.out ≡ false = grind (arith, nat_tests) in rw t (rw t (rw ih refl)))
    (cases_eq q s.out)

pub times_come : (s : Sale) (ps : List ℕ) → s.out ≢ s.into → times s.into (map (follow_one (Swap s)) ps) ≡ times s.into ps + times s.out ps
times_come s [] ne = refl
times_come s (q ∷ ps) ne = let ih : times s.into (map (follow_one (Swap s)) ps) ≡ times s.into ps + times s.out ps = times_come s ps ne in ⊎_elim
    (λ (e : q ≡ s.out). let t : nat_eq q s.out ≡ true = grind (arith, nat_tests) in let u : nat_eq s.into s.into ≡ true = grind (arith, nat_tests) in let v : nat_eq q s.into ≡ false = grind (arith, nat_tests) in rw t (rw (u, v) (omega arith)))
    (λ (n : q ≢ s.out). let t : nat_eq q s.out ≡ false = grind (arith, nat_tests) in rw t (omega arith))
    (cases_eq q s.out)

pub times_stay : (s : Sale) (p : ℕ) (ps : List ℕ) → p ≢ s.out → p ≢ s.into → times p (map (follow_one (Swap s)) ps) ≡ times p ps
times_stay s p [] n m = refl
times_stay s p (q ∷ ps) n m = let ih : times p (map (follow_one (Swap s)) ps) ≡ times p ps = times_stay s p ps n m in ⊎_elim
    (λ (e : q ≡ s.out). let t : nat_eq q s.out ≡ true = grind (arith, nat_tests) in let u : nat_eq s.into p ≡ false = grind (arith, nat_tests) in let v : nat_eq q p ≡ false = grind (arith, nat_tests) in rw t (rw (u, v, ih) refl))
    (λ (k : q ≢ s.out). let t : nat_eq q s.out ≡ false = grind (arith, nat_tests) in rw t (rw ih refl))
    (cases_eq q s.out)

times_picks : (p : ℕ) (picks : List Holding) → length (prices_among p picks) ≡ times p (map (λ k. k.player) picks)
times_picks p [] = refl
times_picks p (k ∷ picks) = let ih : length (prices_among p picks) ≡ times p (map (λ k. k.player) picks) = times_picks p picks in
    elim (nat_eq k.player p) as (λ b. length (cond b (k.bought ∷ []) [] ++ prices_among p picks) ≡ cond b 1 0 + times p (map (λ k. k.player) picks))
    [ true ↦ (let j : suc (length (prices_among p picks)) ≡ 1 + times p (map (λ k. k.player) picks) = omega arith in j) | false ↦ (let j : length (prices_among p picks) ≡ 0 + times p (map (λ k. k.player) picks) = omega arith in j) ]

same_sound : (es : List Event) (g : ℕ) (d : Deed) → ((p : ℕ) → length (brought_by p d) ≡ 0) → ((p : ℕ) → length (taken_by p d) ≡ 0)
    → ((p : ℕ) → times p (order_of (es ++ record { gw = g; deed = d } ∷ [])) ≡ times p (order_of es)) → Sound es → Sound (es ++ record { gw = g; deed = d } ∷ [])
same_sound es g d b t o s = record {
  counted = λ p. (let i = ins-push es g d p in let u = outs-push es g d p in let c : ins p es ≡ outs p es + times p (order_of es) = s.counted p in omega (arith, i, u, c, o p, b p, t p));
  apart = λ p. (let a : times p (order_of es) ≤ 1 = s.apart p in omega (arith, o p, a));
}

map_follow_none : (d : Deed) (ps : List ℕ) → ((p : ℕ) → follow_one d p ≡ p) → map (follow_one d) ps ≡ ps
map_follow_none d [] e = refl
map_follow_none d (p ∷ ps) e = let i : map (follow_one d) ps ≡ ps = map_follow_none d ps e in rw (e p, i) refl

swap_sound : (es : List Event) (g : ℕ) (s : Sale) → Sound es → in_squad es s.out ≡ true → in_squad es s.into ≡ false → Sound (es ++ record { gw = g; deed = Swap s } ∷ [])
swap_sound es g s so y n =
    let one : times s.out (order_of es) ≡ 1 = in_squad-times es s.out so y in
    let none : times s.into (order_of es) ≡ 0 = not_in_squad-times es s.into so n in
    let ne : s.out ≢ s.into = λ e. (let bad : times s.out (order_of es) ≡ 0 = ap (λ p. times p (order_of es)) e ∙ none in omega arith) in
    let o : order_of (es ++ record { gw = g; deed = Swap s } ∷ []) ≡ map (follow_one (Swap s)) (order_of es) = order-none es g (Swap s) refl refl in
    record { counted = λ p. (counted_at p ne one none o (cases_eq p s.out) (cases_eq p s.into)); apart = λ p. (apart_at p ne one none o (cases_eq p s.out) (cases_eq p s.into)) }
  where
    counted_at : (p : ℕ) → s.out ≢ s.into → times s.out (order_of es) ≡ 1 → times s.into (order_of es) ≡ 0 → order_of (es ++ record { gw = g; deed = Swap s } ∷ []) ≡ map (follow_one (Swap s)) (order_of es)
        → (p ≡ s.out) ⊎ (p ≢ s.out) → (p ≡ s.into) ⊎ (p ≢ s.into) → ins p (es ++ record { gw = g; deed = Swap s } ∷ []) ≡ outs p (es ++ record { gw = g; deed = Swap s } ∷ []) + times p (order_of (es ++ record { gw = g; deed = Swap s } ∷ []))
    counted_at p ne one none o (inl a) (inl b) = absurd (ne (sym a ∙ b))
    counted_at p ne one none o (inl a) (inr b) = let t : nat_eq s.out p ≡ true = grind (arith, nat_tests) in let u : nat_eq s.into p ≡ false = grind (arith, nat_tests) in
        let c : ins p es ≡ outs p es + times p (order_of es) = so.counted p in let k : times p (order_of es) ≡ 1 = ap (λ q. times q (order_of es)) a ∙ one in
        let z : times p (map (follow_one (Swap s)) (order_of es)) ≡ 0 = ap (λ q. times q (map (follow_one (Swap s)) (order_of es))) a ∙ times_gone s (order_of es) ne in
        rw (ins-push es g (Swap s) p, outs-push es g (Swap s) p, o) (rw (t, u, z) (omega arith))
    counted_at p ne one none o (inr a) (inl b) = let t : nat_eq s.out p ≡ false = grind (arith, nat_tests) in let u : nat_eq s.into p ≡ true = grind (arith, nat_tests) in
        let c : ins p es ≡ outs p es + times p (order_of es) = so.counted p in let k : times p (order_of es) ≡ 0 = ap (λ q. times q (order_of es)) b ∙ none in
        let z : times p (map (follow_one (Swap s)) (order_of es)) ≡ times s.into (order_of es) + times s.out (order_of es) = ap (λ q. times q (map (follow_one (Swap s)) (order_of es))) b ∙ times_come s (order_of es) ne in
        rw (ins-push es g (Swap s) p, outs-push es g (Swap s) p, o) (rw (t, u, z) (omega arith))
    counted_at p ne one none o (inr a) (inr b) = let t : nat_eq s.out p ≡ false = grind (arith, nat_tests) in let u : nat_eq s.into p ≡ false = grind (arith, nat_tests) in
        let c : ins p es ≡ outs p es + times p (order_of es) = so.counted p in
        let z : times p (map (follow_one (Swap s)) (order_of es)) ≡ times p (order_of es) = times_stay s p (order_of es) a b in
        rw (ins-push es g (Swap s) p, outs-push es g (Swap s) p, o) (rw (t, u, z) (omega arith))

    apart_at : (p : ℕ) → s.out ≢ s.into → times s.out (order_of es) ≡ 1 → times s.into (order_of es) ≡ 0 → order_of (es ++ record { gw = g; deed = Swap s } ∷ []) ≡ map (follow_one (Swap s)) (order_of es)
        → (p ≡ s.out) ⊎ (p ≢ s.out) → (p ≡ s.into) ⊎ (p ≢ s.into) → times p (order_of (es ++ record { gw = g; deed = Swap s } ∷ [])) ≤ 1
    apart_at p ne one none o (inl a) b = let z : times p (map (follow_one (Swap s)) (order_of es)) ≡ 0 = ap (λ q. times q (map (follow_one (Swap s)) (order_of es))) a ∙ times_gone s (order_of es) ne in rw (o, z) (omega arith)
    apart_at p ne one none o (inr a) (inl b) = let z : times p (map (follow_one (Swap s)) (order_of es)) ≡ times s.into (order_of es) + times s.out (order_of es) = ap (λ q. times q (map (follow_one (Swap s)) (order_of es))) b ∙ times_come s (order_of es) ne in rw (o, z) (omega arith)
    apart_at p ne one none o (inr a) (inr b) = let z : times p (map (follow_one (Swap s)) (order_of es)) ≡ times p (order_of es) = times_stay s p (order_of es) a b in let k : times p (order_of es) ≤ 1 = so.apart p in rw (o, z) k

pub sound_push : (es : List Event) (g : ℕ) (d : Deed) → Sound es → FitsKept es d → Sound (es ++ record { gw = g; deed = d } ∷ [])
sound_push es g (First picks captain vice) so f = subst (λ (k : List Event). Sound (k ++ record { gw = g; deed = First picks captain vice } ∷ [])) (sym f.0) (record {
  counted = λ p. (let o : order_of (record { gw = g; deed = First picks captain vice } ∷ []) ≡ map (λ k. k.player) picks = order-some [] g (First picks captain vice) (map (λ k. k.player) picks) refl refl in
      let i : ins p (record { gw = g; deed = First picks captain vice } ∷ []) ≡ length (prices_among p picks) = ap length (append-nil (prices_among p picks)) in
      rw (i, o) (let t = times_picks p picks in omega (arith, t)));
  apart = λ p. (let o : order_of (record { gw = g; deed = First picks captain vice } ∷ []) ≡ map (λ k. k.player) picks = order-some [] g (First picks captain vice) (map (λ k. k.player) picks) refl refl in rw o (f.1 p));
})
sound_push es g (Swap s) so f = swap_sound es g s so f.0 f.1
sound_push es g (Lineup ps captain vice) so f = same_sound es g (Lineup ps captain vice) (λ p. refl) (λ p. refl)
    (λ p. (let o : order_of (es ++ record { gw = g; deed = Lineup ps captain vice } ∷ []) ≡ ps = order-some es g (Lineup ps captain vice) ps refl refl in rw o (lined p (in_squad es p) refl))) so
  where
    lined : (p : ℕ) (b : Bool) → in_squad es p ≡ b → times p ps ≡ times p (order_of es)
    lined p true e = let k : times p ps ≡ cond (in_squad es p) 1 0 = f p in let t : times p (order_of es) ≡ 1 = in_squad-times es p so e in (rw e at k) ∙ sym t
    lined p false e = let k : times p ps ≡ cond (in_squad es p) 1 0 = f p in let t : times p (order_of es) ≡ 0 = not_in_squad-times es p so e in (rw e at k) ∙ sym t
sound_push es g (Play chip) so f = same_sound es g (Play chip) (λ p. refl) (λ p. refl) (λ p. ap (times p) (order-none es g (Play chip) refl refl ∙ map_follow_none (Play chip) (order_of es) (λ q. refl))) so
sound_push es g Cancel so f = same_sound es g Cancel (λ p. refl) (λ p. refl) (λ p. ap (times p) (order-none es g Cancel refl refl ∙ map_follow_none Cancel (order_of es) (λ q. refl))) so

-- each event fits what counts before it
abbrev pub KeptFrom : List Event → List Event → Type 0
KeptFrom before [] = Unit {0}
KeptFrom before (e ∷ es) = FitsKept before e.deed × KeptFrom (before ++ e ∷ []) es

pub kept_from-push : (before es : List Event) (g : ℕ) (d : Deed) → KeptFrom before es → FitsKept (before ++ es) d → KeptFrom before (es ++ record { gw = g; deed = d } ∷ [])
kept_from-push before [] g d k f = (subst (λ (b : List Event). FitsKept b d) (append-nil before) f, tt)
kept_from-push before (e ∷ es) g d k f = (k.0, kept_from-push (before ++ e ∷ []) es g d k.1 (subst (λ (b : List Event). FitsKept b d) (sym (push_more before e es)) f))

pub sound_from : (before es : List Event) → Sound before → KeptFrom before es → Sound (before ++ es)
sound_from before [] s k = subst Sound (sym (append-nil before)) s
sound_from before (e ∷ es) s k = subst Sound (push_more before e es) (sound_from (before ++ e ∷ []) es (sound_push before e.gw e.deed s k.0) k.1)

pub sound_all : (es : List Event) → KeptFrom [] es → Sound es
sound_all es k = sound_from [] es (record { counted = λ p. refl; apart = λ p. (omega arith) }) k
