-- That the players of each fixture's lines rise, from each fixture that has facts.
use Rattle.std.proofs.Common.{◌≡◌, inl, inr, ◌<◌, ℕ, zero, suc, ◌==◌, Bool, true, false, cond, List, [], ◌∷◌, Option, Some, None, refl, sym, ◌∙◌, ap, subst, arith}
use Rattle.std.specs.List.{AllPairs}
use Rattle.std.specs.List.Sorted.{IsStrictlyIncreasing}
use Rattle.std.specs.Map.{keys_of}
use Rattle.std.specs.Option.{unwrap_or}
use Rattle.std.proofs.lemmas.Bool.Decides.{nat_tests}
use Rattle.std.proofs.lemmas.List.Kept.{AllPairs-from_increasing}
use Rattle.std.proofs.lemmas.Option.{none-some}
use Rattle.rule_book.specs.ById.{at_id}
use Rattle.rule_book.specs.MatchFacts.{MatchFacts, Sheet, bare_sheet, lines_of, players_in}
use Rattle.rescore_graph.specs.Graph.{Among}
use Rattle.season_nodes.specs.Season.{Rising}

place_of : (xs : List ℕ) (m : ℕ) → Among xs m → (k : ℕ) × ((k < Rattle.std.proofs.Common.length xs) × ((d : ℕ) → Rattle.std.proofs.Common.get_or xs k d ≡ m))
place_of [] m a = absurd a
place_of (x ∷ xs) m (inl e) = (zero, (omega arith, λ d. e))
place_of (x ∷ xs) m (inr a) = let r = place_of xs m a in (suc r.0, (omega (arith, r.1.0), r.1.1))

rise_tail : (x : ℕ) (xs : List ℕ) → AllPairs (λ a b. a < b) (x ∷ xs) → AllPairs (λ a b. a < b) xs
rise_tail x xs up i j d lt within = up (suc i) (suc j) d (omega arith) (omega arith)

rise_head : (x : ℕ) (xs : List ℕ) (m : ℕ) → AllPairs (λ a b. a < b) (x ∷ xs) → Among xs m → x < m
rise_head x xs m up a = let r = place_of xs m a in subst (λ z. x < z) (r.1.1 x) (up zero (suc r.0) x (omega arith) (omega (arith, r.1.0)))

pairs_rise : (xs : List ℕ) → AllPairs (λ a b. a < b) xs → Rising xs
pairs_rise [] up = tt
pairs_rise (x ∷ xs) up = ((λ m a. rise_head x xs m up a), pairs_rise xs (rise_tail x xs up))

pub rises : (xs : List ℕ) → IsStrictlyIncreasing xs → Rising xs
rises xs up = pairs_rise xs (AllPairs-from_increasing xs up)

same : (m n : ℕ) → (m == n) ≡ true → m ≡ n
same m n e = grind (arith, nat_tests)

key_case : (k f : ℕ) (keys : List ℕ) (t : Bool) → (k == f) ≡ t → (t ≡ false → Among keys f) → Among (k ∷ keys) f
key_case k f keys true e later = inl (same k f e)
key_case k f keys false e later = inr (later refl)

key_among : (rows : MatchFacts) (f : ℕ) (sheet : Sheet) → at_id rows f ≡ Some sheet → Among (keys_of rows) f
key_among [] f sheet e = absurd (none-some sheet e)
key_among (row ∷ rows) f sheet e = key_case row.0 f (keys_of rows) (row.0 == f) refl (λ t. key_among rows f sheet (sym (ap (λ b. cond b (Some row.1) (at_id rows f)) t) ∙ e))

-- where it rises of each fixture that has facts, it rises of each
pub all_rise : (m : MatchFacts) → ((f : ℕ) → Among (keys_of m) f → Rising (players_in (lines_of m f))) → (f : ℕ) → Rising (players_in (lines_of m f))
all_rise m each f = by_case (at_id m f) refl
  where
    by_case : (o : Option Sheet) → at_id m f ≡ o → Rising (players_in (lines_of m f))
    by_case (Some sheet) e = each f (key_among m f sheet e)
    by_case None e = subst (λ (s : Option Sheet). Rising (players_in (unwrap_or s bare_sheet).lines)) (sym e) tt
