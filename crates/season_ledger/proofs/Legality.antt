-- In a history what counts in any gameweek fits, event by event.
use Rattle.std.proofs.Common.{◌≡◌, ◌<◌, ◌≤◌, ◌≢◌, ◌⊎◌, ◌∷◌, [], ◌++◌, ℕ, true, false, not, ◌&&◌, List, arith, refl, sym, ap, ◌∙◌, subst, inl, inr, ⊎_elim, nat_eq, nat_lt}
use Rattle.std.specs.Prelude.{filter}
use Rattle.std.specs.List.{flat_map, AllByRecursion as Each}
use Rattle.std.proofs.lemmas.List.{append-nil}
use Rattle.std.proofs.lemmas.List.Elements.{filter-append}
use Rattle.std.proofs.lemmas.Bool.Decides.{nat_tests}
use Rattle.std.proofs.lemmas.Bool.{cases_eq, cases_lt}
use Rattle.rule_book.specs.History.{Deed, Event, last_of, chip_said, chip_at, is_free_hit, counts_in, kept, is_touched, in_gameweek}
use Rattle.rule_book.specs.HistoryRules.{first_gw, FitsKept, ChipFits, NoneAfter, Fits, GoesOn, IsHistory}
use Rattle.fpl_base.specs.declared.kinds.Chip.TheVariants.{None as NoChip, Wildcard, FreeHit, BenchBoost, TripleCaptain}
use Rattle.rule_book.specs.History.Deed.{First, Swap, Lineup, Play, Cancel}
use Rattle.season_ledger.proofs.Lists.{filter_agree_on, each_weaker}
use Rattle.season_ledger.proofs.Kept.{chip_other, chip_here, touched_other, kept_more, kept_before}
use Rattle.season_ledger.proofs.Swaps.{push_more}
use Rattle.season_ledger.proofs.Counted.{KeptFrom, kept_from-push, Sound, sound_all}

-- the events of earlier gameweeks that count
abbrev pub earlier : List Event → ℕ → List Event
earlier h g = filter (λ e. nat_lt e.gw g && not (is_free_hit (chip_at h e.gw))) h

pub none_each : (g : ℕ) (h : List Event) → NoneAfter g h → Each (λ e. e.gw ≤ g) h
none_each g [] n = tt
none_each g (e ∷ h) n = (n.0, none_each g h n.1)

lt_true : (a b : ℕ) → a < b → nat_lt a b ≡ true
lt_true a b l = grind (arith, nat_tests)

lt_false : (a b : ℕ) → b ≤ a → nat_lt a b ≡ false
lt_false a b l = grind (arith, nat_tests)

eq_false : (a b : ℕ) → a ≢ b → nat_eq a b ≡ false
eq_false a b n = grind (arith, nat_tests)

eq_true : (a b : ℕ) → a ≡ b → nat_eq a b ≡ true
eq_true a b e = grind (arith, nat_tests)

-- earlier gameweeks, up to the event's own, stay
pub earlier_same : (h : List Event) (g0 g : ℕ) (d : Deed) → g ≤ g0 → earlier (h ++ in_gameweek g0 (d ∷ [])) g ≡ earlier h g
earlier_same h g0 g d le = filter-append (λ e. nat_lt e.gw g && not (is_free_hit (chip_at (h ++ in_gameweek g0 (d ∷ [])) e.gw))) h (in_gameweek g0 (d ∷ []))
    ∙ (let f : nat_lt g0 g ≡ false = lt_false g0 g le in rw f (append-nil _))
    ∙ filter_agree_on (λ e. nat_lt e.gw g && not (is_free_hit (chip_at (h ++ in_gameweek g0 (d ∷ [])) e.gw))) (λ e. nat_lt e.gw g && not (is_free_hit (chip_at h e.gw))) h (all h)
  where
    at : (v : ℕ) → (v < g) ⊎ (g ≤ v) → (nat_lt v g && not (is_free_hit (chip_at (h ++ in_gameweek g0 (d ∷ [])) v))) ≡ (nat_lt v g && not (is_free_hit (chip_at h v)))
    at v (inl l) = let ne : v ≢ g0 = omega arith in rw (chip_other h g0 v (d ∷ []) ne) refl
    at v (inr l) = let f : nat_lt v g ≡ false = lt_false v g l in rw f refl

    all : (k : List Event) → Each (λ e. (nat_lt e.gw g && not (is_free_hit (chip_at (h ++ in_gameweek g0 (d ∷ [])) e.gw))) ≡ (nat_lt e.gw g && not (is_free_hit (chip_at h e.gw)))) k
    all [] = tt
    all (e ∷ k) = (at e.gw (cases_lt e.gw g), all k)

-- under a free hit the gameweek's events are dropped afterwards
earlier_dropped : (h : List Event) (g0 g : ℕ) (d : Deed) → g0 < g → NoneAfter g0 h → is_free_hit (chip_at (h ++ in_gameweek g0 (d ∷ [])) g0) ≡ true → earlier (h ++ in_gameweek g0 (d ∷ [])) g ≡ earlier h g0
earlier_dropped h g0 g d lt up free = filter-append (λ e. nat_lt e.gw g && not (is_free_hit (chip_at (h ++ in_gameweek g0 (d ∷ [])) e.gw))) h (in_gameweek g0 (d ∷ []))
    ∙ (let f : nat_lt g0 g ≡ true = lt_true g0 g lt in rw (f, free) (append-nil _))
    ∙ filter_agree_on (λ e. nat_lt e.gw g && not (is_free_hit (chip_at (h ++ in_gameweek g0 (d ∷ [])) e.gw))) (λ e. nat_lt e.gw g0 && not (is_free_hit (chip_at h e.gw))) h
    (each_weaker (λ (e : Event). e.gw ≤ g0) (λ (e : Event). (nat_lt e.gw g && not (is_free_hit (chip_at (h ++ in_gameweek g0 (d ∷ [])) e.gw))) ≡ (nat_lt e.gw g0 && not (is_free_hit (chip_at h e.gw)))) (λ e l. at e.gw l (cases_eq e.gw g0)) h (none_each g0 h up))
  where
    at : (v : ℕ) → v ≤ g0 → (v ≡ g0) ⊎ (v ≢ g0) → (nat_lt v g && not (is_free_hit (chip_at (h ++ in_gameweek g0 (d ∷ [])) v))) ≡ (nat_lt v g0 && not (is_free_hit (chip_at h v)))
    at v l (inl e) = let f : nat_lt v g ≡ true = lt_true v g (omega arith) in let k : nat_lt v g0 ≡ false = lt_false v g0 (omega arith) in
        let c : is_free_hit (chip_at (h ++ in_gameweek g0 (d ∷ [])) v) ≡ true = ap (λ w. is_free_hit (chip_at (h ++ in_gameweek g0 (d ∷ [])) w)) e ∙ free in rw (f, k, c) refl
    at v l (inr n) = let f : nat_lt v g ≡ true = lt_true v g (omega arith) in let k : nat_lt v g0 ≡ true = lt_true v g0 (omega arith) in rw (f, k) (rw (chip_other h g0 v (d ∷ []) n) refl)

-- otherwise they count
earlier_kept : (h : List Event) (g0 g : ℕ) (d : Deed) → g0 < g → NoneAfter g0 h → is_free_hit (chip_at (h ++ in_gameweek g0 (d ∷ [])) g0) ≡ false → earlier (h ++ in_gameweek g0 (d ∷ [])) g ≡ kept h g0 ++ in_gameweek g0 (d ∷ [])
earlier_kept h g0 g d lt up free = filter-append (λ e. nat_lt e.gw g && not (is_free_hit (chip_at (h ++ in_gameweek g0 (d ∷ [])) e.gw))) h (in_gameweek g0 (d ∷ []))
    ∙ (let f : nat_lt g0 g ≡ true = lt_true g0 g lt in rw (f, free) refl)
    ∙ ap (λ r. r ++ in_gameweek g0 (d ∷ [])) (filter_agree_on (λ e. nat_lt e.gw g && not (is_free_hit (chip_at (h ++ in_gameweek g0 (d ∷ [])) e.gw))) (λ e. counts_in h g0 e.gw) h
    (each_weaker (λ (e : Event). e.gw ≤ g0) (λ (e : Event). (nat_lt e.gw g && not (is_free_hit (chip_at (h ++ in_gameweek g0 (d ∷ [])) e.gw))) ≡ counts_in h g0 e.gw) (λ e l. at e.gw l (cases_eq e.gw g0)) h (none_each g0 h up)))
  where
    at : (v : ℕ) → v ≤ g0 → (v ≡ g0) ⊎ (v ≢ g0) → (nat_lt v g && not (is_free_hit (chip_at (h ++ in_gameweek g0 (d ∷ [])) v))) ≡ counts_in h g0 v
    at v l (inl e) = let f : nat_lt v g ≡ true = lt_true v g (omega arith) in let k : nat_eq v g0 ≡ true = eq_true v g0 e in
        let c : is_free_hit (chip_at (h ++ in_gameweek g0 (d ∷ [])) v) ≡ false = ap (λ w. is_free_hit (chip_at (h ++ in_gameweek g0 (d ∷ [])) w)) e ∙ free in rw (f, k, c) refl
    at v l (inr n) = let f : nat_lt v g ≡ true = lt_true v g (omega arith) in let k : nat_lt v g0 ≡ true = lt_true v g0 (omega arith) in let m : nat_eq v g0 ≡ false = eq_false v g0 n in rw (f, k, m) (rw (chip_other h g0 v (d ∷ []) n) refl)

-- in a gameweek after all events only the earlier count
pub kept_later : (h : List Event) (g0 g : ℕ) → g0 < g → NoneAfter g0 h → kept h g ≡ earlier h g
kept_later h g0 g lt up = filter_agree_on (λ e. counts_in h g e.gw) (λ e. nat_lt e.gw g && not (is_free_hit (chip_at h e.gw))) h
    (each_weaker (λ (e : Event). e.gw ≤ g0) (λ (e : Event). counts_in h g e.gw ≡ (nat_lt e.gw g && not (is_free_hit (chip_at h e.gw)))) (λ e l. (let m : nat_eq e.gw g ≡ false = eq_false e.gw g (omega arith) in rw m refl)) h (none_each g0 h up))

pub none_push : (g : ℕ) (h : List Event) (d : Deed) → NoneAfter g h → NoneAfter g (h ++ in_gameweek g (d ∷ []))
none_push g [] d n = ((omega arith), tt)
none_push g (e ∷ h) d n = (n.0, none_push g h d n.1)

pub record AllFit (h : List Event) : Type 0 where
  pub now : (g : ℕ) → KeptFrom [] (kept h g)
  pub before : (g : ℕ) → KeptFrom [] (earlier h g)

all_fit-push : (h : List Event) (g0 : ℕ) (d : Deed) → AllFit h → NoneAfter g0 h → FitsKept (kept h g0) d → AllFit (h ++ in_gameweek g0 (d ∷ []))
all_fit-push h g0 d a up f = record { now = λ g. now_at g (cases_lt g g0) (cases_eq g g0); before = λ g. before_at g (cases_lt g0 g) }
  where
    pushed : KeptFrom [] (kept h g0 ++ in_gameweek g0 (d ∷ []))
    pushed = kept_from-push [] (kept h g0) g0 d (a.now g0) f

    before_at : (g : ℕ) → (g0 < g) ⊎ (g ≤ g0) → KeptFrom [] (earlier (h ++ in_gameweek g0 (d ∷ [])) g)
    before_at g (inr le) = subst (KeptFrom []) (sym (earlier_same h g0 g d le)) (a.before g)
    before_at g (inl lt) = elim (is_free_hit (chip_at (h ++ in_gameweek g0 (d ∷ [])) g0)) as (λ b. is_free_hit (chip_at (h ++ in_gameweek g0 (d ∷ [])) g0) ≡ b → KeptFrom [] (earlier (h ++ in_gameweek g0 (d ∷ [])) g)) [
      | true ↦ (λ e. subst (KeptFrom []) (sym (earlier_dropped h g0 g d lt up e)) (a.before g0))
      | false ↦ (λ e. subst (KeptFrom []) (sym (earlier_kept h g0 g d lt up e)) pushed)
    ] refl

    now_at : (g : ℕ) → (g < g0) ⊎ (g0 ≤ g) → (g ≡ g0) ⊎ (g ≢ g0) → KeptFrom [] (kept (h ++ in_gameweek g0 (d ∷ [])) g)
    now_at g (inl lt) b = subst (KeptFrom []) (sym (kept_before h g0 g (d ∷ []) lt)) (a.now g)
    now_at g (inr le) (inl e) = subst (λ w. KeptFrom [] (kept (h ++ in_gameweek g0 (d ∷ [])) w)) (sym e) (subst (KeptFrom []) (sym (kept_more h g0 (d ∷ []))) pushed)
    now_at g (inr le) (inr n) = let lt : g0 < g = omega arith in subst (KeptFrom []) (sym (kept_later (h ++ in_gameweek g0 (d ∷ [])) g0 g lt (none_push g0 h d up))) (before_at g (inl lt))

pub all_fit_from : (h es : List Event) → AllFit h → GoesOn h es → AllFit (h ++ es)
all_fit_from h [] a k = subst AllFit (sym (append-nil h)) a
all_fit_from h (e ∷ es) a k = subst AllFit (push_more h e es) (all_fit_from (h ++ e ∷ []) es (all_fit-push h e.gw e.deed a k.0.0 k.0.1) k.1)

pub all_fit : (h : List Event) → IsHistory h → AllFit h
all_fit h k = all_fit_from [] h (record { now = λ g. tt; before = λ g. tt }) k

-- a history goes on by a deed that fits
pub goes_on-push : (h es : List Event) (g : ℕ) (d : Deed) → GoesOn h es → Fits (h ++ es) g d → GoesOn h (es ++ record { gw = g; deed = d } ∷ [])
goes_on-push h [] g d k f = (subst (λ (b : List Event). Fits b g d) (append-nil h) f, tt)
goes_on-push h (e ∷ es) g d k f = (k.0, goes_on-push (h ++ e ∷ []) es g d k.1 (subst (λ (b : List Event). Fits b g d) (sym (push_more h e es)) f))

-- the order's players are those counted in
pub sound_at : (h : List Event) (g : ℕ) → IsHistory h → Sound (kept h g)
sound_at h g k = sound_all (kept h g) ((all_fit h k).now g)

-- the first gameweek has no free hit, and nothing is before it
pub record Headed (h : List Event) : Type 0 where
  pub bare : is_free_hit (chip_at h (first_gw h)) ≡ false
  pub least : (w : ℕ) → is_touched h w ≡ true → first_gw h ≤ w

headed-push : (h : List Event) (g : ℕ) (d : Deed) → Headed h → Fits h g d → Headed (h ++ in_gameweek g (d ∷ []))
headed-push [] g (First picks captain vice) k f = record {
  bare = (let u : nat_eq g g ≡ true = eq_true g g refl in rw u refl);
  least = λ w t. (⊎_elim (λ (e : g ≡ w). omega arith) (λ (n : g ≢ w). let u : nat_eq g w ≡ false = eq_false g w n in let bad : false ≡ true = rw u at t in cc) (cases_eq g w));
}
headed-push [] g (Swap sale) k f = absurd (clash f.3)
  where
    clash : false ≡ true → ⊥
    clash e = cc
headed-push [] g (Lineup players captain vice) k f = absurd (clash f.3)
  where
    clash : false ≡ true → ⊥
    clash e = cc
headed-push [] g (Play chip) k f = absurd (clash f.3)
  where
    clash : false ≡ true → ⊥
    clash e = cc
headed-push [] g Cancel k f = absurd (clash f.3)
  where
    clash : false ≡ true → ⊥
    clash e = cc
headed-push (e ∷ h) g d k f = record {
  bare = ⊎_elim
      (λ (q : e.gw ≡ g). subst (λ w. is_free_hit (chip_at ((e ∷ h) ++ in_gameweek g (d ∷ [])) w) ≡ false) (sym q) (rw (chip_here (e ∷ h) g (d ∷ [])) (said d f.2 q (subst (λ w. is_free_hit (chip_at (e ∷ h) w) ≡ false) q k.bare))))
      (λ (n : e.gw ≢ g). ap is_free_hit (chip_other (e ∷ h) g e.gw (d ∷ []) n) ∙ k.bare)
      (cases_eq e.gw g);
  least = λ w t. (⊎_elim
      (λ (q : w ≡ g). let l : e.gw ≤ g = f.0.0 in omega arith)
      (λ (n : w ≢ g). k.least w (sym (touched_other (e ∷ h) g w (d ∷ []) n) ∙ t))
      (cases_eq w g));
}
  where
    said : (d : Deed) → ChipFits (e ∷ h) g d → e.gw ≡ g → is_free_hit (chip_at (e ∷ h) g) ≡ false → is_free_hit (last_of (chip_at (e ∷ h) g) (flat_map chip_said (d ∷ []))) ≡ false
    said (First picks captain vice) c q b = b
    said (Swap sale) c q b = b
    said (Lineup players captain vice) c q b = b
    said (Play NoChip) c q b = refl
    said (Play Wildcard) c q b = refl
    said (Play FreeHit) c q b = let l : e.gw < g = c.1 refl in absurd (omega arith)
    said (Play BenchBoost) c q b = refl
    said (Play TripleCaptain) c q b = refl
    said Cancel c q b = refl

pub headed_from : (h es : List Event) → Headed h → GoesOn h es → Headed (h ++ es)
headed_from h [] a k = subst Headed (sym (append-nil h)) a
headed_from h (e ∷ es) a k = subst Headed (push_more h e es) (headed_from (h ++ e ∷ []) es (headed-push h e.gw e.deed a k.0) k.1)

pub headed : (h : List Event) → IsHistory h → Headed h
headed h k = headed_from [] h (record { bare = refl; least = λ w t. (omega arith) }) k
