-- The places of the entries in an order, and the leagues of those who stand in one.
use Rattle.std.proofs.Common.{◌≡◌, ℕ, zero, suc, ◌+◌, ◌-◌, ◌<◌, ◌≤◌, ◌==◌, Bool, true, false, not, nat_lt, cond, ◌⊎◌, inl, inr, List, [], ◌∷◌, length, Option, Some, None, refl, sym, ◌∙◌, ap, subst, arith}
use Rattle.std.specs.List.{position_or_len, slice_get, slice_index}
use Rattle.std.specs.Option.{option_map_or}
use Rattle.std.proofs.lemmas.Bool.{cases_lt}
use Rattle.std.proofs.lemmas.Bool.Decides.{nat_tests}
use Rattle.std.proofs.lemmas.List.Quantifiers.{position-Some}
use Rattle.std.proofs.lemmas.Option.{same_Some}
use Rattle.rule_book.specs.Entries.{entry_in}
use Rattle.rule_book.specs.LeagueCalls.{is_member, leagues_from, leagues_of}
use Rattle.rule_book.specs.LeagueRows.{place_of}
use Rattle.rule_book.specs.Leagues.{LeagueFacts}
use Rattle.rule_book.specs.Ranks.{AllDiffer}
use Rattle.rescore_graph.specs.Graph.{Among}
use Rattle.season_nodes.specs.Rounds.{order_in}
use Rattle.season_nodes.specs.Season.{SeasonFacts, IsSeason}

same_id : (n m : ℕ) → (n == m) ≡ true → n ≡ m
same_id n m e = grind (arith, nat_tests)

same_test : (n m : ℕ) → n ≡ m → (n == m) ≡ true
same_test n m e = grind (arith, nat_tests)

below_test : (n m : ℕ) → n < m → nat_lt n m ≡ true
below_test n m e = grind (arith, nat_tests)

-- who has a place stands there
pub at_place : (order : List ℕ) (e i : ℕ) → place_of order e ≡ Some i → (i < length order) × (slice_index order i ≡ e)
at_place order e i is = let r = position-Some (λ member. member == e) order i 0 is in (r.0, same_id (slice_index order i) e r.1)

pub among_at : (order : List ℕ) (i : ℕ) → i < length order → Among order (slice_index order i)
among_at [] i within = absurd (omega (arith, within))
among_at (x ∷ xs) zero within = inl refl
among_at (x ∷ xs) (suc i) within = inr (among_at xs i (omega (arith, within)))

pub placed_among : (order : List ℕ) (e i : ℕ) → place_of order e ≡ Some i → Among order e
placed_among order e i is = let r = at_place order e i is in subst (Among order) r.1 (among_at order i r.0)

head_case : (t : Bool) (rest n : ℕ) → (t ≡ true) ⊎ (rest < n) → cond (not t) (1 + rest) 0 < suc n
head_case true rest n o = omega arith
head_case false rest n (inl e) = absurd (cc)
head_case false rest n (inr low) = omega (arith, low)

found_within : (order : List ℕ) (e : ℕ) → Among order e → position_or_len (λ member. member == e) order < length order
found_within [] e a = absurd a
found_within (x ∷ xs) e (inl is) = head_case (x == e) (position_or_len (λ member. member == e) xs) (length xs) (inl (same_test x e is))
found_within (x ∷ xs) e (inr a) = head_case (x == e) (position_or_len (λ member. member == e) xs) (length xs) (inr (found_within xs e a))

-- who stands in an order has a place
pub has_place : (order : List ℕ) (e : ℕ) → Among order e → (i : ℕ) × (place_of order e ≡ Some i)
has_place order e a =
    let i = position_or_len (λ member. member == e) order in
    (i, ap (λ t. cond t (Some i) None) (below_test i (length order) (found_within order e a)))

-- where all differ, each has the place at which it stands
pub own_place : (order : List ℕ) → AllDiffer order → (i : ℕ) → i < length order → place_of order (slice_index order i) ≡ Some i
own_place order differ i within =
    let found = has_place order (slice_index order i) (among_at order i within) in
    let there = at_place order (slice_index order i) found.0 found.1 in
    found.1 ∙ ap Some (same found.0 there.0 there.1)
  where
    same : (j : ℕ) → j < length order → slice_index order j ≡ slice_index order i → j ≡ i
    same j low is =
        elim (cases_lt j i) [
          | inl below ↦ absurd (differ j i 0 below within is)
          | inr up ↦ elim (cases_lt i j) [
            | inl above ↦ absurd (differ i j 0 above low (sym is))
            | inr down ↦ omega (arith, up, down)
          ]
        ]

-- the leagues of an entry are those of which it is a member
pub listed : (n : ℕ) (leagues : List LeagueFacts) (e i : ℕ) (league : LeagueFacts) → slice_get leagues i ≡ Some league → is_member league e ≡ true → Among (leagues_from n leagues e) (n + i)
listed n [] e i league at is = absurd (cc)
listed n (x ∷ xs) e zero league at is =
    let same : n ≡ n + 0 = omega arith in
    subst (λ t. Among (cond t (n ∷ leagues_from (n + 1) xs e) (leagues_from (n + 1) xs e)) (n + 0)) (sym (ap (λ l. is_member l e) (same_Some x league at) ∙ is)) (inl same)
listed n (x ∷ xs) e (suc i) league at is =
    let same : n + 1 + i ≡ n + suc i = omega arith in
    behind (is_member x e) (subst (Among (leagues_from (n + 1) xs e)) same (listed (n + 1) xs e i league at is))
  where
    behind : (t : Bool) → Among (leagues_from (n + 1) xs e) (n + suc i) → Among (cond t (n ∷ leagues_from (n + 1) xs e) (leagues_from (n + 1) xs e)) (n + suc i)
    behind true a = inr a
    behind false a = a

clash : true ≡ false → ⊥
clash e = cc

-- the league of a number stands at the place before it
pub numbered : (leagues : List LeagueFacts) (l : ℕ) (league : LeagueFacts) (t : Bool) → (l == 0) ≡ t → cond t None (slice_get leagues (l - 1)) ≡ Some league → (1 ≤ l) × (slice_get leagues (l - 1) ≡ Some league)
numbered leagues l league true e at = absurd (cc)
numbered leagues zero league false e at = absurd (clash e)
numbered leagues (suc l) league false e at = (omega arith, at)

-- a member of a league has it among its leagues
pub in_leagues : (leagues : List LeagueFacts) (l e : ℕ) (league : LeagueFacts) → entry_in leagues l ≡ Some league → is_member league e ≡ true → Among (leagues_of leagues e) l
in_leagues leagues l e league at is =
    let there = numbered leagues l league (l == 0) refl at in
    let place : 1 + (l - 1) ≡ l = omega (arith, there.0) in
    subst (Among (leagues_of leagues e)) place (listed 1 leagues e (l - 1) league there.1 is)

differ_none : AllDiffer []
differ_none i j d lt within = absurd (omega (arith, within))

module _ (b : SeasonFacts) (is : IsSeason b) where
  order_case : (l : ℕ) (o : Option LeagueFacts) → entry_in b.leagues l ≡ o → AllDiffer (option_map_or (λ league. league.order) o [])
  order_case l None at = differ_none
  order_case l (Some league) at = (is.orders l league at).differ

  -- those in an order differ
  pub order_differs : (l : ℕ) → AllDiffer (order_in b.leagues l)
  order_differs l = order_case l (entry_in b.leagues l) refl

  mine_case : (l e : ℕ) (o : Option LeagueFacts) → entry_in b.leagues l ≡ o → Among (option_map_or (λ league. league.order) o []) e → Among (leagues_of b.leagues e) l
  mine_case l e None at a = absurd a
  mine_case l e (Some league) at a = in_leagues b.leagues l e league at ((is.orders l league at).members e a)

  -- who stands in the order of a league has it among its leagues
  pub order_mine : (l e : ℕ) → Among (order_in b.leagues l) e → Among (leagues_of b.leagues e) l
  order_mine l e a = mine_case l e (entry_in b.leagues l) refl a
