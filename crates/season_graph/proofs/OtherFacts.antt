-- Bringing up to date those nodes of a list that came or went.
use Rattle.std.proofs.Common.{◌≡◌, Bool, true, false, not, cond, if◌then◌else◌, ◌⊎◌, inl, inr, ⊎_elim, List, [], ◌∷◌, ◌++◌, is_some, sym, ◌∙◌, ap}
use Rattle.std.specs.Bool.{beq}
use Rattle.std.specs.List.{filter}
use Rattle.rescore_graph.specs.Graph.{Among}
use Rattle.rescore_graph.specs.States.{State}
use Rattle.season_nodes.specs.declared.nodes.Node.{Node}
use Rattle.season_nodes.specs.declared.nodes.Value.{Value}
use Rattle.season_nodes.specs.Reading.{among_either, among_left, among_right, from_filter, to_filter}
use Rattle.season_graph.specs.Refreshed.{Refreshed}
use Rattle.season_graph.specs.Touched.{is_other}
use Rattle.season_graph.proofs.ChangedFacts.{chosen_case, other_same}
use Rattle.season_graph.proofs.RefreshedFacts.{refreshed_append, refreshed_both, refreshed_listed, refreshed_same, refreshed_some}

module _ (live : Node → Bool) where
  -- the nodes of a list that have a cell and are not live, or the other way round
  abbrev pub others_in : State Node Value → List Node → List Node
  others_in s ns = filter (λ n. is_other (is_some (s n)) (live n)) ns

  -- one node, by what was asked of it
  pub other_chosen : (n : Node) (s t : State Node Value) (b had has : Bool) → had ≡ is_some (s n) → has ≡ live n → not (beq had has) ≡ b
      → Refreshed live (Among (cond b (n ∷ []) [])) s t → Refreshed live (Among (if is_other (is_some (s n)) (live n) then n ∷ [] else [])) s t
  other_chosen n s t b had has e d k r =
      refreshed_listed live (cond b (n ∷ []) []) (if is_other (is_some (s n)) (live n) then n ∷ [] else []) s t
      (ap (λ c. cond c (n ∷ []) []) (chosen_case b had has (is_some (s n)) (live n) e d k)) r

  -- some nodes more
  pub others_append : (ns ms : List Node) (s t u : State Node Value) → Refreshed live (Among (others_in s ns)) s t → Refreshed live (Among (others_in t ms)) t u
      → Refreshed live (Among (others_in s (ns ++ ms))) s u
  others_append ns ms s t u so_far more =
      refreshed_same live (λ q. Among (others_in s ns) q ⊎ Among (others_in t ms) q) (Among (others_in s (ns ++ ms))) s u (λ q. (there q, back q))
      (refreshed_both live (Among (others_in s ns)) (Among (others_in t ms)) s t u so_far more)
    where
      there : (q : Node) → Among (others_in s ns) q ⊎ Among (others_in t ms) q → Among (others_in s (ns ++ ms)) q
      there q (inl a) =
          let r = from_filter (λ m. is_other (is_some (s m)) (live m)) ns q a in
          to_filter (λ m. is_other (is_some (s m)) (live m)) (ns ++ ms) q (among_left ns ms q r.0) r.1
      there q (inr a) =
          let r = from_filter (λ m. is_other (is_some (t m)) (live m)) ms q a in
          ⊎_elim
          (λ x. absurd (other_same (is_some (t q)) (live q) (ap is_some x.1 ∙ refreshed_some (live q) (s q)) r.1))
          (λ x. to_filter (λ m. is_other (is_some (s m)) (live m)) (ns ++ ms) q (among_right ns ms q r.0) (sym (ap (λ o. is_other (is_some o) (live q)) x.1) ∙ r.1))
          (so_far q)

      back : (q : Node) → Among (others_in s (ns ++ ms)) q → Among (others_in s ns) q ⊎ Among (others_in t ms) q
      back q a =
          let r = from_filter (λ m. is_other (is_some (s m)) (live m)) (ns ++ ms) q a in
          ⊎_elim
          (λ x. inl x.0)
          (λ x. ⊎_elim
          (λ y. inl (to_filter (λ m. is_other (is_some (s m)) (live m)) ns q y r.1))
          (λ y. inr (to_filter (λ m. is_other (is_some (t m)) (live m)) ms q y (ap (λ o. is_other (is_some o) (live q)) x.1 ∙ r.1)))
          (among_either ns ms q r.0))
          (so_far q)

  -- all of some nodes, or those that come or go
  abbrev pub chosen_in : Bool → State Node Value → List Node → List Node
  chosen_in all s ns = if all then ns else others_in s ns

  pub chosen_append : (all : Bool) (ns ms : List Node) (s t u : State Node Value) → Refreshed live (Among (chosen_in all s ns)) s t → Refreshed live (Among (chosen_in all t ms)) t u
      → Refreshed live (Among (chosen_in all s (ns ++ ms))) s u
  chosen_append true ns ms s t u so_far more = refreshed_append live ns ms s t u so_far more
  chosen_append false ns ms s t u so_far more = others_append ns ms s t u so_far more
