-- a path fits one pattern of a table at most
use Rattle.std.proofs.Common.{◌≡◌, ◌∙◌, sym, refl, ℕ, List, [], ◌∷◌, length, Bool, true, false, arith, inl, inr, ◌==◌, cond}
use Rattle.std.proofs.lemmas.Bool.Decides.{nat_tests}
use Rattle.std.specs.Prelude.{nat_lt, ◌&&◌}
use Rattle.fpl_requests.specs.Targets.{Has, after_segment, fits}
use Rattle.fpl_requests.proofs.PatternTests.{differ, differs_from_all, all_differ}

both : (a b : Bool) → (a && b) ≡ true → (a ≡ true) × (b ≡ true)
both true b h = (refl, h)
both false b h = absurd (cc h)

apart_at : (x y b : ℕ) (p q r : List ℕ) → (v w s : Bool) → (x == y) ≡ v → (x == 256) ≡ w → (b == 47) ≡ s → differ (x ∷ p) (y ∷ q) ≡ true → fits (x ∷ p) (b ∷ r) ≡ true → fits (y ∷ q) (b ∷ r) ≡ true
    → ((path : List ℕ) → differ p q ≡ true → fits p path ≡ true → fits q path ≡ true → ⊥) → ⊥
apart_at x y b p q r true true true e f g d m n ih = let bad : false ≡ true = rw (f, g) at m in cc bad
apart_at x y b p q r true true false e f g d m n ih =
    let same : x ≡ y = grind (arith, nat_tests, e) in
    let fy : (y == 256) ≡ true = rw same at f in
    ih (after_segment r) (rw e at d) (rw (f, g) at m) (rw (fy, g) at n)
apart_at x y b p q r true false s e f g d m n ih =
    let same : x ≡ y = grind (arith, nat_tests, e) in
    let fy : (y == 256) ≡ false = rw same at f in
    by_byte (x == b) refl (rw f at m) (rw fy at n)
  where
    by_byte : (v : Bool) → (x == b) ≡ v → cond (x == b) (fits p r) false ≡ true → cond (y == b) (fits q r) false ≡ true → ⊥
    by_byte true h m n =
        let same : x ≡ y = grind (arith, nat_tests, e) in
        let hy : (y == b) ≡ true = rw same at h in
        ih r (rw e at d) (rw h at m) (rw hy at n)
    by_byte false h m n = let bad : false ≡ true = rw h at m in cc bad
apart_at x y b p q r false w s e f g d m n ih =
    let parts = both (nat_lt x 256) (nat_lt y 256) (rw e at d) in
    let fx : (x == 256) ≡ false = grind (arith, nat_tests, parts.0) in
    let fy : (y == 256) ≡ false = grind (arith, nat_tests, parts.1) in
    by_bytes (x == b) (y == b) refl refl (rw fx at m) (rw fy at n)
  where
    by_bytes : (v u : Bool) → (x == b) ≡ v → (y == b) ≡ u → cond (x == b) (fits p r) false ≡ true → cond (y == b) (fits q r) false ≡ true → ⊥
    by_bytes true true h k m n = let same : (x == y) ≡ true = grind (arith, nat_tests, h, k) in cc (sym same ∙ e)
    by_bytes true false h k m n = let bad : false ≡ true = rw k at n in cc bad
    by_bytes false u h k m n = let bad : false ≡ true = rw h at m in cc bad

pub apart : (p q path : List ℕ) → differ p q ≡ true → fits p path ≡ true → fits q path ≡ true → ⊥
apart [] [] path d m n = cc d
apart [] (y ∷ q) [] d m n = cc n
apart [] (y ∷ q) (b ∷ r) d m n = let bad : (length (b ∷ r) == 0) ≡ false = grind (arith, nat_tests) in cc (sym m ∙ bad)
apart (x ∷ p) [] [] d m n = cc m
apart (x ∷ p) [] (b ∷ r) d m n = let bad : (length (b ∷ r) == 0) ≡ false = grind (arith, nat_tests) in cc (sym n ∙ bad)
apart (x ∷ p) (y ∷ q) [] d m n = cc m
apart (x ∷ p) (y ∷ q) (b ∷ r) d m n = apart_at x y b p q r (x == y) (x == 256) (b == 47) refl refl refl d m n (apart p q)

none_fits : {K : Type 0} (t : List ℕ) (rs : List (List ℕ × K)) (p path : List ℕ) (k : K) → differs_from_all t rs ≡ true → fits t path ≡ true → Has p k rs → fits p path ≡ true → ⊥
none_fits t [] p path k d m h n = h
none_fits t (r ∷ rest) p path k d m (inl e) n =
    let parts = both (differ t r.0) (differs_from_all t rest) d in
    apart t r.0 path parts.0 m (rw (sym e.0) at n)
none_fits t (r ∷ rest) p path k d m (inr h) n =
    let parts = both (differ t r.0) (differs_from_all t rest) d in
    none_fits t rest p path k parts.1 m h n

-- what stands at the patterns a path fits is one
pub one_route : {K : Type 0} (rs : List (List ℕ × K)) (p q path : List ℕ) (j k : K) → all_differ rs ≡ true → Has p j rs → Has q k rs → fits p path ≡ true → fits q path ≡ true → j ≡ k
one_route [] p q path j k d h g m n = absurd h
one_route (r ∷ rest) p q path j k d (inl e) (inl f) m n = sym e.1 ∙ f.1
one_route (r ∷ rest) p q path j k d (inl e) (inr g) m n =
    absurd (none_fits r.0 rest q path k (both (differs_from_all r.0 rest) (all_differ rest) d).0 (rw (sym e.0) at m) g n)
one_route (r ∷ rest) p q path j k d (inr h) (inl f) m n =
    absurd (none_fits r.0 rest p path j (both (differs_from_all r.0 rest) (all_differ rest) d).0 (rw (sym f.0) at n) h m)
one_route (r ∷ rest) p q path j k d (inr h) (inr g) m n = one_route rest p q path j k (both (differs_from_all r.0 rest) (all_differ rest) d).1 h g m n
