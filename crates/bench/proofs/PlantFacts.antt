-- Cells of a tree: planted one after another, and after a node got another number.
use Rattle.std.proofs.Common.{◌≡◌, ◌≢◌, ℕ, ◌+◌, ◌-◌, ◌*◌, ◌^◌, ◌<◌, ◌≤◌, true, false, List, ◌⊎◌, ⊎_elim, None, is_some, sym, ◌∙◌, ap, subst, arith, set, nat_cmp, max}
use Rattle.std.specs.Prelude.{slice_index}
use Rattle.std.specs.Cmp.{nat_cmp_total}
use Rattle.std.proofs.lemmas.List.{get_or-set_other}
use Rattle.rescore_graph.specs.States.{State, value_of, is_dirty, values_in, planted, raise, Puts}
use Rattle.rescore_graph.specs.Settling.{Sound}
use Rattle.rescore_graph.proofs.ChangeFacts.{sound_changed}
use Rattle.rescore_graph.proofs.RaisedFacts.{value_raise, some_raise, raise_dirty}
use Rattle.rescore_graph.proofs.WorkFacts.{put_here, put_others, apart}
use Rattle.bench.specs.Tree.{part, tree_graph}
use Rattle.bench.specs.TreeLaws.{tree_lawful, number_exact}

-- the nodes up to k were planted, and no other
pub record IsFilled (s : State ℕ ℕ) (k : ℕ) : Type 0 where
  pub there : (q : ℕ) → 1 ≤ q → q ≤ k → s q ≡ planted
  pub none : (q : ℕ) → (q < 1) ⊎ (k < q) → s q ≡ None

clash : true ≡ false → ⊥
clash e = cc

module _ (size : ℕ) (numbers : List ℕ) (few : size < 2 ^ 31) (s t : State ℕ ℕ) (sound : Sound (tree_graph size numbers) s) (n v : ℕ) (low : 1 ≤ n) (high : n ≤ size) (puts : Puts nat_cmp s t n (raise (s n))) where
  others : (q : ℕ) → n ≢ q → t q ≡ s q
  others = put_others nat_cmp nat_cmp_total number_exact n s t (raise (s n)) puts

  here : t n ≡ raise (s n)
  here = put_here nat_cmp nat_cmp_total number_exact n s t (raise (s n)) puts

  value_same : (m : ℕ) → values_in t m ≡ values_in s m
  value_same m = ⊎_elim (λ i. subst (λ x. values_in t x ≡ values_in s x) i (ap value_of here ∙ value_raise (s n))) (λ ne. ap value_of (others m ne)) (apart nat_cmp nat_cmp_total number_exact n m)

  some_same : (m : ℕ) → is_some (t m) ≡ is_some (s m)
  some_same m = ⊎_elim (λ i. subst (λ x. is_some (t x) ≡ is_some (s x)) i (ap is_some here ∙ some_raise (s n))) (λ ne. ap is_some (others m ne)) (apart nat_cmp nat_cmp_total number_exact n m)

  not_here : (q : ℕ) → is_dirty (t q) ≡ false → n ≢ q
  not_here q c i = clash (sym (subst (λ x. is_dirty (t x) ≡ true) i (ap is_dirty here ∙ raise_dirty (s n) ((sound.cells n).1 (low, high)))) ∙ c)

  number_same : (q : ℕ) → 1 ≤ q → n ≢ q → slice_index (set numbers (n - 1) v) (q - 1) ≡ slice_index numbers (q - 1)
  number_same q l ne = get_or-set_other numbers (n - 1) (q - 1) v 0 (λ i. ne (omega arith))

  -- a node got another number
  pub number_changed : Sound (tree_graph size (set numbers (n - 1) v)) t
  number_changed = sound_changed (tree_graph size numbers) (tree_graph size (set numbers (n - 1) v)) (tree_lawful size numbers few) s t sound
      (λ q. ((λ y. (sound.cells q).0 (sym (some_same q) ∙ y)), (λ l. some_same q ∙ (sound.cells q).1 l)))
      (λ q l c. record {
        live = l;
        cell = others q (not_here q c);
        inputs = λ m a. a;
        own = λ f. ap (λ x. max (max x (part size f (2 * q))) (part size f (2 * q + 1))) (number_same q l.0 (not_here q c));
        values = λ m a. value_same m;
      })
