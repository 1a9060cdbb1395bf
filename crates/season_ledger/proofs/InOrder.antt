-- What counts in g: what counts of the gameweeks before it, and then all of g.
use Rattle.std.proofs.Common.{◌≡◌, ◌<◌, ◌≤◌, ◌≢◌, ◌⊎◌, ◌∷◌, [], ◌++◌, ℕ, true, false, List, arith, refl, sym, ap, ◌∙◌, subst, inl, inr, nat_eq}
use Rattle.std.specs.Prelude.{filter}
use Rattle.std.proofs.lemmas.List.{append-nil, append_assoc}
use Rattle.std.proofs.lemmas.List.Elements.{filter-append}
use Rattle.std.proofs.lemmas.Bool.Decides.{nat_tests}
use Rattle.std.proofs.lemmas.Bool.{cases_eq, cases_lt}
use Rattle.rule_book.specs.History.{Deed, Event, kept, in_gameweek}
use Rattle.rule_book.specs.HistoryRules.{NoneAfter, GoesOn, IsHistory}
use Rattle.season_ledger.proofs.Lists.{filter_none, each_weaker}
use Rattle.season_ledger.proofs.Kept.{kept_more, kept_before}
use Rattle.season_ledger.proofs.Swaps.{push_more}
use Rattle.season_ledger.proofs.Legality.{earlier, earlier_same, kept_later, none_push, none_each}

-- the events of a gameweek
abbrev pub events_of : List Event → ℕ → List Event
events_of h g = filter (λ e. nat_eq e.gw g) h

events_here : (h : List Event) (g : ℕ) (d : Deed) → events_of (h ++ in_gameweek g (d ∷ [])) g ≡ events_of h g ++ in_gameweek g (d ∷ [])
events_here h g d = filter-append (λ e. nat_eq e.gw g) h (in_gameweek g (d ∷ [])) ∙ (let t : nat_eq g g ≡ true = grind (arith, nat_tests) in rw t refl)

events_other : (h : List Event) (g0 g : ℕ) (d : Deed) → g0 ≢ g → events_of (h ++ in_gameweek g0 (d ∷ [])) g ≡ events_of h g
events_other h g0 g d n = filter-append (λ e. nat_eq e.gw g) h (in_gameweek g0 (d ∷ [])) ∙ (let t : nat_eq g0 g ≡ false = grind (arith, nat_tests) in rw t (append-nil _))

events_none : (h : List Event) (g0 g : ℕ) → g0 < g → NoneAfter g0 h → events_of h g ≡ []
events_none h g0 g lt up = filter_none (λ e. nat_eq e.gw g) h (each_weaker (λ (e : Event). e.gw ≤ g0) (λ (e : Event). nat_eq e.gw g ≡ false) (λ e l. (grind (arith, nat_tests))) h (none_each g0 h up))

pub record Parted (h : List Event) : Type 0 where
  pub parts : (g : ℕ) → kept h g ≡ earlier h g ++ events_of h g

parted-push : (h : List Event) (g0 : ℕ) (d : Deed) → Parted h → NoneAfter g0 h → Parted (h ++ in_gameweek g0 (d ∷ []))
parted-push h g0 d k up = record { parts = λ g. at g (cases_lt g g0) (cases_eq g0 g) }
  where
    at : (g : ℕ) → (g < g0) ⊎ (g0 ≤ g) → (g0 ≡ g) ⊎ (g0 ≢ g) → kept (h ++ in_gameweek g0 (d ∷ [])) g ≡ earlier (h ++ in_gameweek g0 (d ∷ [])) g ++ events_of (h ++ in_gameweek g0 (d ∷ [])) g
    at g (inl lt) q = rw (kept_before h g0 g (d ∷ []) lt, earlier_same h g0 g d (omega arith), events_other h g0 g d (omega arith)) (k.parts g)
    at g (inr le) (inl e) = subst (λ w. kept (h ++ in_gameweek g0 (d ∷ [])) w ≡ earlier (h ++ in_gameweek g0 (d ∷ [])) w ++ events_of (h ++ in_gameweek g0 (d ∷ [])) w) e
        (kept_more h g0 (d ∷ []) ∙ ap (λ r. r ++ in_gameweek g0 (d ∷ [])) (k.parts g0) ∙ append_assoc (earlier h g0) (events_of h g0) (in_gameweek g0 (d ∷ [])) ∙ ap (λ r. r ++ (events_of h g0 ++ in_gameweek g0 (d ∷ []))) (sym (earlier_same h g0 g0 d (omega arith))) ∙ ap (λ r. earlier (h ++ in_gameweek g0 (d ∷ [])) g0 ++ r) (sym (events_here h g0 d)))
    at g (inr le) (inr n) = let lt : g0 < g = omega arith in
        kept_later (h ++ in_gameweek g0 (d ∷ [])) g0 g lt (none_push g0 h d up) ∙ sym (append-nil _) ∙ ap (λ r. earlier (h ++ in_gameweek g0 (d ∷ [])) g ++ r) (sym (events_none (h ++ in_gameweek g0 (d ∷ [])) g0 g lt (none_push g0 h d up)))

parted_from : (h es : List Event) → Parted h → GoesOn h es → Parted (h ++ es)
parted_from h [] a k = subst Parted (sym (append-nil h)) a
parted_from h (e ∷ es) a k = subst Parted (push_more h e es) (parted_from (h ++ e ∷ []) es (parted-push h e.gw e.deed a k.0.0) k.1)

-- in a history the kept events are those of earlier gameweeks that count, then those of the gameweek
pub kept_in_order : (h : List Event) (g : ℕ) → IsHistory h → kept h g ≡ earlier h g ++ events_of h g
kept_in_order h g k = (parted_from [] h (record { parts = λ w. refl }) k).parts g
