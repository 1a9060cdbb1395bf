-- Settling one level: where its nodes stand on the work list, and what is left of it.
use Rattle.std.proofs.Common.{◌≡◌, ◌≢◌, ℕ, zero, suc, ◌+◌, ◌<◌, ◌≤◌, Bool, true, false, List, [], ◌∷◌, ◌++◌, ◌⊎◌, inl, inr, ⊎_elim, refl, sym, ◌∙◌, ap, subst, arith, take, length, get_or, nat_cmp, Ordering, Less, Equal, Greater}
use Rattle.std.proofs.lemmas.Cmp.{ranked}
use Rattle.std.specs.Ordering.{MatchOrdering}
use Rattle.rescore_graph.specs.Graph.{Among, Graph, IsGraph}
use Rattle.rescore_graph.specs.States.{State, is_dirty, IsDirty}
use Rattle.rescore_graph.specs.Settling.{Sound, Evaluates}
use Rattle.rescore_graph.specs.Work.{AreAll, IsFront}
use Rattle.rescore_graph.proofs.RaisedFacts.{dirty_some}
use Rattle.rescore_graph.proofs.ProgressFacts.{dirty_after}
use Rattle.rescore_graph.proofs.WorkFacts.{among_taken}

-- the element stands in the list, at a place from one to before another
abbrev pub StandsFrom : {X : Type 0} → List X → ℕ → ℕ → X → Type 0
StandsFrom xs place end x = (i : ℕ) × ((place ≤ i) × (i < end) × (get_or xs i x ≡ x))

get_any : {X : Type 0} (xs : List X) (i : ℕ) (c d : X) → i < length xs → get_or xs i c ≡ get_or xs i d
get_any [] i c d h = absurd (omega arith)
get_any (x ∷ xs) zero c d h = refl
get_any (x ∷ xs) (suc i) c d h = get_any xs i c d (omega arith)

get_front : {X : Type 0} (xs more : List X) (i : ℕ) (d : X) → i < length xs → get_or (xs ++ more) i d ≡ get_or xs i d
get_front [] more i d h = absurd (omega arith)
get_front (x ∷ xs) more zero d h = refl
get_front (x ∷ xs) more (suc i) d h = get_front xs more i d (omega arith)

pub stands_among : {X : Type 0} (xs : List X) (x : X) → Among xs x → StandsFrom xs 0 (length xs) x
stands_among [] x a = absurd a
stands_among (y ∷ ys) x (inl e) = (0, (omega arith, omega arith, e))
stands_among (y ∷ ys) x (inr a) = let r = stands_among ys x a in let h : r.0 < length ys = r.1.1 in (suc r.0, (omega arith, omega arith, r.1.2))

pub stands_front : {X : Type 0} (xs ys : List X) (place end : ℕ) (x : X) → end ≤ length xs → IsFront xs ys → StandsFrom xs place end x → StandsFrom ys place end x
stands_front xs ys place end x h f r = let k : r.0 < end = r.1.1 in
    (r.0, (r.1.0, r.1.1, ap (λ l. get_or l r.0 x) f.1 ∙ get_front xs f.0 r.0 x (omega arith) ∙ r.1.2))

-- the element at the place is another, or stands behind it
pub stands_next : {X : Type 0} (xs : List X) (place end : ℕ) (n x : X) → end ≤ length xs → n ≡ get_or xs place n → StandsFrom xs place end x → (n ≡ x) ⊎ StandsFrom xs (place + 1) end x
stands_next xs place end n x h is r = test (nat_cmp place r.0) (ranked place r.0 (nat_cmp place r.0) refl)
  where
    test : (o : Ordering) → MatchOrdering o (place < r.0) (place ≡ r.0) (r.0 < place) → (n ≡ x) ⊎ StandsFrom xs (place + 1) end x
    test Less k = inr (r.0, (omega arith, r.1.1, r.1.2))
    test Equal k = let b : r.0 < end = r.1.1 in inl (is ∙ get_any xs place n x (omega arith) ∙ ap (λ i. get_or xs i x) k ∙ r.1.2)
    test Greater k = let b : place ≤ r.0 = r.1.0 in absurd (omega arith)

pub stands_nowhere : {X : Type 0} (xs : List X) (place end : ℕ) (x : X) → end ≤ place → ¬ StandsFrom xs place end x
stands_nowhere xs place end x h r = let a : place ≤ r.0 = r.1.0 in let b : r.0 < end = r.1.1 in absurd (omega arith)

-- the least level of the nodes so far, from one on, and one node more
pub least_more : {N : Type 0} (live : N → Type 0) (level : N → ℕ) (xs : List N) (i : ℕ) (x : N) → i < length xs → x ≡ get_or xs i x
    → (from least next l : ℕ) → next ≤ least → (l < from) ⊎ (next ≤ l) → l < 256 → (live x → l ≡ level x)
    → ((q : N) → Among (take i xs) q → live q → (level q < from) ⊎ ((least ≤ level q) × (level q < 256)))
    → (q : N) → Among (take (i + 1) xs) q → live q → (level q < from) ⊎ ((next ≤ level q) × (level q < 256))
least_more live level xs i x h is from least next l down here low lv seen q a k = ⊎_elim
    (λ b. ⊎_elim inl (λ r. inr (lower r.0, r.1)) (seen q b k))
    (λ e. subst (λ y. (level y < from) ⊎ ((next ≤ level y) × (level y < 256))) e (own (subst live (sym e) k)))
    (among_taken xs i x h is q a)
  where
    lower : least ≤ level q → next ≤ level q
    lower r = omega arith

    own : live x → (level x < from) ⊎ ((next ≤ level x) × (level x < 256))
    own m = let e : l ≡ level x = lv m in ⊎_elim (λ r. inl (omega arith)) (λ r. inr (omega arith, omega arith)) here

-- levels of dirty nodes, under a list that has them all
module _ {N V : Type 0} (g : Graph N V) (s : State N V) (sound : Sound g s) (xs : List N) (all : AreAll s xs) where
  pub least_levels : (from least : ℕ) → ((q : N) → Among xs q → g.live q → (g.level q < from) ⊎ ((least ≤ g.level q) × (g.level q < 256)))
      → ((d : N) → IsDirty s d → from ≤ g.level d) → (d : N) → IsDirty s d → (least ≤ g.level d) × (g.level d < 256)
  least_levels from least seen low d e = let k : from ≤ g.level d = low d e in
      ⊎_elim (λ h. absurd (omega arith)) (λ r. r) (seen d (all d e) ((sound.cells d).0 (dirty_some (s d) e)))

-- no node of a level of 256 or more is dirty
pub clean_above : {N V : Type 0} (g : Graph N V) (s : State N V) (least : ℕ) → 256 ≤ least → ((d : N) → IsDirty s d → (least ≤ g.level d) × (g.level d < 256)) → (n : N) → is_dirty (s n) ≡ false
clean_above g s least h low n = test (is_dirty (s n)) refl
  where
    test : (b : Bool) → is_dirty (s n) ≡ b → is_dirty (s n) ≡ false
    test false f = f
    test true f = let r = low n f in let a : least ≤ g.level n = r.0 in let b : g.level n < 256 = r.1 in absurd (omega arith)

-- a level at least as high is higher, or the same
left_same : {N : Type 0} (l m : ℕ) (n d : N) (P : Type 0) → l ≤ m → n ≢ d → P → (l < m) ⊎ ((l ≡ m) × (n ≢ d) × P)
left_same l m n d P h ne p = test (nat_cmp l m) (ranked l m (nat_cmp l m) refl)
  where
    test : (o : Ordering) → MatchOrdering o (l < m) (l ≡ m) (m < l) → (l < m) ⊎ ((l ≡ m) × (n ≢ d) × P)
    test Less k = inl k
    test Equal k = inr (k, ne, p)
    test Greater k = absurd (omega arith)

-- what is left of a level after a node was evaluated
pub left_after : {N V : Type 0} (g : Graph N V) (law : IsGraph g) (apart : (n q : N) → (n ≡ q) ⊎ (n ≢ q)) (n : N) (v : V) (t u w : State N V) (sound : Sound g t) → Evaluates g n v t u w
    → (l : ℕ) → l ≡ g.level n → ((d : N) → IsDirty t d → l ≤ g.level d)
    → (d : N) → IsDirty w d → (l < g.level d) ⊎ ((l ≡ g.level d) × (n ≢ d) × IsDirty t d)
left_after g law apart n v t u w sound e l le least d k = let h = dirty_after g law apart n v t u w sound e d k in
    ⊎_elim (λ f. left_same l (g.level d) n d (IsDirty t d) (least d f) h.0 f)
    (λ b. let c : g.level n < g.level d = law.inputs_lower d n b.0 b.1 in inl (omega arith)) h.1

-- a level that is not below, and of which nothing is left, is above
pub past_level : {X : Type 0} (xs : List X) (place end l m : ℕ) (d : X) → end ≤ place → l ≤ m → (m ≡ l → StandsFrom xs place end d) → l < m
past_level xs place end l m d h k left = test (nat_cmp l m) (ranked l m (nat_cmp l m) refl)
  where
    test : (o : Ordering) → MatchOrdering o (l < m) (l ≡ m) (m < l) → l < m
    test Less r = r
    test Equal r = absurd (stands_nowhere xs place end d h (left (sym r)))
    test Greater r = absurd (omega arith)
