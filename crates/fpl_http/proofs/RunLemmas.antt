-- runs, one after another, and runs of one machine by another
use Rattle.std.proofs.Common.{◌≡◌, ◌∙◌, ap, sym, subst, refl, ℕ, List, [], ◌∷◌, ◌++◌, append_assoc}
use Rattle.fpl_http.specs.Stream.{Request}
use Rattle.fpl_http.specs.Runs.{Run, joined}

-- the texts of two runs, one after the other
pub joined_both : (ts us : List (List ℕ)) → joined (ts ++ us) ≡ joined ts ++ joined us
joined_both [] us = refl
joined_both (t ∷ ts) us = ap (λ (l : List ℕ). t ++ l) (joined_both ts us) ∙ sym (append_assoc t (joined ts) (joined us))

-- one run goes on where another ended
pub run_then : {S : Type 0} (step : S → Request → List ℕ → S → Type 0) (a b c : S) (ms ns : List Request) (ts us : List (List ℕ)) → Run step a ms ts b → Run step b ns us c → Run step a (ms ++ ns) (ts ++ us) c
run_then step a b c [] ns [] us p q = subst (λ (d : _). Run step d ns us c) p q
run_then step a b c [] ns (t ∷ ts) us p q = absurd p
run_then step a b c (m ∷ ms) ns [] us p q = absurd p
run_then step a b c (m ∷ ms) ns (t ∷ ts) us (d, s, p) q = (d, s, run_then step d b c ms ns ts us p q)
