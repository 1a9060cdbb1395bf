-- Who holds a player in a gameweek, after the index changed.
use Rattle.std.proofs.Common.{◌≡◌, ℕ, nat_cmp, ◌==◌, ◌&&◌, Bool, true, false, cond, ◌⊎◌, inl, inr, ⊎_elim, ◌↔◌, List, [], ◌∷◌, ◌++◌, Option, Some, refl, sym, ap, ◌∙◌, subst, is_eq, Ordering, Less, Equal, Greater}
use Rattle.std.specs.BTreeMap.{is_at}
use Rattle.std.specs.Cmp.{IsTotalOrder, nat_cmp_total, on_total, then_total, unsigned_tied}
use Rattle.std.specs.Map.{lookup}
use Rattle.std.specs.Option.{unwrap_or}
use Rattle.std.specs.Ordering.{ordering_then}
use Rattle.std.proofs.lemmas.Map.Lookups.{CmpEqualImpliesEq, exact_pairs, exact_unsigned}
use Rattle.rescore_graph.specs.Graph.{Among}
use Rattle.rescore_graph.proofs.ProgressFacts.{among_last, among_more, among_push}
use Rattle.rescore_graph.proofs.WorkFacts.{apart, at_apart, at_self}
use Rattle.season_nodes.specs.IndexFacts.{HasHolders, HasMore, IndexRows, holders_in, pair_cmp}

either : (t : Bool) (w o : Option (List ℕ)) → unwrap_or (cond t w o) [] ≡ cond t (unwrap_or w []) (unwrap_or o [])
either true w o = refl
either false w o = refl

-- an update of the map is one of the holders
has_holders : (old new : IndexRows) (p g : ℕ) (w : Option (List ℕ))
    → ((k : ℕ × ℕ) → lookup (is_at (pair_cmp k)) new ≡ cond (is_at (pair_cmp (g, p)) k) w (lookup (is_at (pair_cmp k)) old)) → HasHolders old new p g (unwrap_or w [])
has_holders old new p g w updates q h = ap (λ o. unwrap_or o []) (updates (h, q)) ∙ either (is_at (pair_cmp (g, p)) (h, q)) w (lookup (is_at (pair_cmp (h, q))) old)

-- `==` finds a gameweek and a player where their order does
abbrev pair_eq : ℕ × ℕ → ℕ × ℕ → Bool
pair_eq x y = (x.0 == y.0) && (x.1 == y.1)

then_eq : (a b : Ordering) → is_eq (ordering_then a b) ≡ (is_eq a && is_eq b)
then_eq Less b = refl
then_eq Equal b = refl
then_eq Greater b = refl

found_alike : (x y : ℕ × ℕ) → is_at (pair_cmp x) y ≡ pair_eq x y
found_alike x y = then_eq (nat_cmp x.0 y.0) (nat_cmp x.1 y.1) ∙ (λ i. unsigned_tied x.0 y.0 i && unsigned_tied x.1 y.1 i)

-- an entry more in the row of a player in a gameweek, which begins with it where there is none
pub held_more : (old before new : IndexRows) (p g e : ℕ) (row : List ℕ) (was : Option (List ℕ)) → before ≡ old → was ≡ lookup (pair_eq (g, p)) old → row ≡ unwrap_or was [] ++ e ∷ []
    → ((k : ℕ × ℕ) → lookup (pair_eq k) new ≡ cond (pair_eq (g, p) k) (Some row) (lookup (pair_eq k) before)) → HasHolders old new p g (holders_in old p g ++ e ∷ [])
held_more old before new p g e row was kept read more updates =
    let same : pair_eq ≡ (λ x y. is_at (pair_cmp x) y) = λ i x y. sym (found_alike x y) i in
    let holders : row ≡ holders_in old p g ++ e ∷ [] = more ∙ ap (λ o. unwrap_or o [] ++ e ∷ []) (read ∙ ap (λ (f : ℕ × ℕ → ℕ × ℕ → Bool). lookup (f (g, p)) old) same) in
    subst (HasHolders old new p g) holders (has_holders old new p g (Some row)
    (subst (λ (f : ℕ × ℕ → ℕ × ℕ → Bool). (k : ℕ × ℕ) → lookup (f k) new ≡ cond (f (g, p) k) (Some row) (lookup (f k) old)) same
    (λ k. updates k ∙ ap (λ rows. cond (pair_eq (g, p) k) (Some row) (lookup (pair_eq k) rows)) kept)))

abbrev pair : ℕ → ℕ → ℕ × ℕ
pair g p = (g, p)

pair_exact : CmpEqualImpliesEq pair_cmp
pair_exact = exact_pairs nat_cmp nat_cmp exact_unsigned exact_unsigned

pair_total : IsTotalOrder pair_cmp
pair_total = then_total (on_total (λ x. x.0) nat_cmp_total) (on_total (λ x. x.1) nat_cmp_total)

-- entry e holds player p in gameweek g
abbrev pub IsOne : ℕ → ℕ → ℕ → ℕ → ℕ → ℕ → Type 0
IsOne p g e q h x = (q ≡ p) × (h ≡ g) × (x ≡ e)

-- one holding more
module _ (old new : IndexRows) (p g e : ℕ) (held : HasHolders old new p g (holders_in old p g ++ e ∷ [])) where
  here : (q h : ℕ) → pair g p ≡ pair h q → holders_in new q h ≡ holders_in old q h ++ e ∷ []
  here q h i = held q h ∙ ap (λ t. cond t (holders_in old p g ++ e ∷ []) (holders_in old q h)) (subst (λ k. is_at (pair_cmp (g, p)) k ≡ true) i (at_self pair_cmp pair_total pair_exact (g, p)))
      ∙ ap (λ k. holders_in old k.1 k.0 ++ e ∷ []) i

  there : (q h : ℕ) → (pair g p ≡ pair h q → ⊥) → holders_in new q h ≡ holders_in old q h
  there q h n = held q h ∙ ap (λ t. cond t (holders_in old p g ++ e ∷ []) (holders_in old q h)) (at_apart pair_cmp pair_total pair_exact (g, p) (h, q) n)

  pub one_more : HasMore old new (IsOne p g e)
  one_more q h x = ⊎_elim
      (λ i. (
        (λ a. ⊎_elim (λ k. inl k) (λ k. inr (sym (ap (λ y. y.1) i), sym (ap (λ y. y.0) i), sym k)) (among_push (holders_in old q h) e x (subst (λ xs. Among xs x) (here q h i) a))),
        (λ o. subst (λ xs. Among xs x) (sym (here q h i)) (⊎_elim (λ a. among_more (holders_in old q h) e x a) (λ r. subst (λ y. Among (holders_in old q h ++ e ∷ []) y) (sym r.2) (among_last (holders_in old q h) e)) o)),
      ))
      (λ n. (
        (λ a. inl (subst (λ xs. Among xs x) (there q h n) a)),
        (λ o. subst (λ xs. Among xs x) (sym (there q h n)) (⊎_elim (λ a. a) (λ r. absurd (n (λ j. (sym r.1 j, sym r.0 j)))) o)),
      ))
      (apart pair_cmp pair_total pair_exact (g, p) (h, q))

-- no holding more
pub none_more : (old : IndexRows) (P : ℕ → ℕ → ℕ → Type 0) → ((q h x : ℕ) → ¬ P q h x) → HasMore old old P
none_more old P none q h x = ((λ a. inl a), (λ o. ⊎_elim (λ a. a) (λ y. absurd (none q h x y)) o))

-- some holdings and then others
pub both_more : (old new newer : IndexRows) (P Q R : ℕ → ℕ → ℕ → Type 0) → ((q h x : ℕ) → R q h x ↔ (P q h x ⊎ Q q h x)) → HasMore old new P → HasMore new newer Q → HasMore old newer R
both_more old new newer P Q R both one two q h x = (
  (λ a. ⊎_elim (λ b. ⊎_elim inl (λ y. inr ((both q h x).1 (inl y))) ((one q h x).0 b)) (λ y. inr ((both q h x).1 (inr y))) ((two q h x).0 a)),
  (λ o. (two q h x).1 (⊎_elim (λ a. inl ((one q h x).1 (inl a))) (λ y. ⊎_elim (λ z. inl ((one q h x).1 (inr z))) (λ z. inr z) ((both q h x).0 y)) o)),
)

-- the same holdings
pub same_more : (old new : IndexRows) (P Q : ℕ → ℕ → ℕ → Type 0) → ((q h x : ℕ) → P q h x ↔ Q q h x) → HasMore old new P → HasMore old new Q
same_more old new P Q same more q h x = (
  (λ a. ⊎_elim inl (λ y. inr ((same q h x).0 y)) ((more q h x).0 a)),
  (λ o. (more q h x).1 (⊎_elim inl (λ y. inr ((same q h x).1 y)) o)),
)
