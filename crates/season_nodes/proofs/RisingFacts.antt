-- Rising numbers are told by who is among them.
use Rattle.std.proofs.Common.{◌≡◌, ℕ, ◌<◌, Bool, true, false, cond, inl, inr, ⊎_elim, List, [], ◌∷◌, ◌++◌, refl, sym, ◌∙◌, ap₂, subst, arith}
use Rattle.std.specs.List.{filter}
use Rattle.rule_book.specs.MatchFacts.{lines_of}
use Rattle.rescore_graph.specs.Graph.{Among}
use Rattle.season_nodes.specs.Reading.{among_either, from_filter}
use Rattle.season_nodes.specs.Season.{SeasonFacts, IsSeason, Rising, has_line, players_of}
use Rattle.season_nodes.specs.SeasonLaws.{has_listed, listed_has}

not_below : (n : ℕ) → n < n → ⊥
not_below n h = omega arith

not_both : (n m : ℕ) → n < m → m < n → ⊥
not_both n m h k = omega arith

-- the first of two rows that have the same numbers is the same
same_first : (n m : ℕ) (ns ms : List ℕ) → Rising (n ∷ ns) → Rising (m ∷ ms) → Among (m ∷ ms) n → Among (n ∷ ns) m → n ≡ m
same_first n m ns ms up on (inl e) b = sym e
same_first n m ns ms up on (inr a) (inl e) = e
same_first n m ns ms up on (inr a) (inr b) = absurd (not_both n m (up.0 m b) (on.0 n a))

-- so are two such rows
pub rising_same : (ns ms : List ℕ) → Rising ns → Rising ms → ((k : ℕ) → Among ns k → Among ms k) → ((k : ℕ) → Among ms k → Among ns k) → ns ≡ ms
rising_same [] [] up on there back = refl
rising_same [] (m ∷ ms) up on there back = absurd (back m (inl refl))
rising_same (n ∷ ns) [] up on there back = absurd (there n (inl refl))
rising_same (n ∷ ns) (m ∷ ms) up on there back =
    let e : n ≡ m = same_first n m ns ms up on (there n (inl refl)) (back m (inl refl)) in
    ap₂ (λ k ks. k ∷ ks) e (rising_same ns ms up.1 on.1
    (λ k a. ⊎_elim (λ i. absurd (not_below n (subst (λ x. n < x) (sym i ∙ sym e) (up.0 k a)))) (λ b. b) (there k (inr a)))
    (λ k a. ⊎_elim (λ i. absurd (not_below m (subst (λ x. m < x) (sym i ∙ e) (on.0 k a)))) (λ b. b) (back k (inr a))))

filter_case : (t : Bool) (n : ℕ) (ns : List ℕ) → ((m : ℕ) → Among ns m → n < m) → Rising ns → Rising (cond t (n ∷ ns) ns)
filter_case true n ns low up = (low, up)
filter_case false n ns low up = up

-- some of them rise
pub rising_filter : (test : ℕ → Bool) (ns : List ℕ) → Rising ns → Rising (filter test ns)
rising_filter test [] up = tt
rising_filter test (n ∷ ns) up = filter_case (test n) n (filter test ns) (λ m a. up.0 m (from_filter test ns m a).0) (rising_filter test ns up.1)

-- and some behind others that are smaller
pub rising_append : (ns ms : List ℕ) → Rising ns → Rising ms → ((n m : ℕ) → Among ns n → Among ms m → n < m) → Rising (ns ++ ms)
rising_append [] ms up on low = on
rising_append (n ∷ ns) ms up on low = (
  (λ m a. ⊎_elim (up.0 m) (λ b. low n m (inl refl) b) (among_either ns ms m a)),
  rising_append ns ms up.1 on (λ k m a b. low k m (inr a) b),
)

-- players who have a line in a fixture are told by who has one
pub players_same : (b d : SeasonFacts) → IsSeason b → IsSeason d → (f : ℕ) → ((q : ℕ) → has_line b q f ≡ has_line d q f) → players_of b f ≡ players_of d f
players_same b d is_b is_d f e = rising_same (players_of b f) (players_of d f) (is_b.ascending f) (is_d.ascending f)
    (λ q a. has_listed (lines_of d.matches f) q (sym (e q) ∙ listed_has (lines_of b.matches f) q a))
    (λ q a. has_listed (lines_of b.matches f) q (e q ∙ listed_has (lines_of d.matches f) q a))
