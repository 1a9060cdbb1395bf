use Rattle.std.proofs.Common.{Bool, cond, ap, ◌≤◌, nat_eq, nat_le, ◌==◌, ◌&&◌, None, Some, suc, ℕ, ◌≡◌, sym, List, [], ◌∷◌, length, get_or, arith, ◌<◌, All, Contains, IsPermutation}
use Rattle.std.specs.Bool.{Decides}
use Rattle.std.specs.Cmp.{unsigned_Decides}
use Rattle.std.specs.List.{remove, IsAnyAnswer, list_all, list_any}
use Rattle.std.proofs.lemmas.Bool.{leb-true, le-leb}
use Rattle.std.proofs.lemmas.Bool.Decides.{Decides-eqb, Decides-and, Decides-like}
use Rattle.std.proofs.lemmas.List.Elements.{All-head, All-tail, Contains-get_or, Decides-contains, contains_decides}
use Rattle.std.proofs.lemmas.List.Sorted.{IsPermutation-refl, IsPermutation-sym, IsPermutation-cons, IsPermutation-trans, IsPermutation-remove, length_permutation, Contains-permutation}
use Rattle.std.proofs.lemmas.List.Sums.{AllPass-from_list_all, list_all-from_AllPass}
use Rattle.std.proofs.lemmas.Map.Made.{Contains-tail, is_member-Decides}
use Rattle.fpl_base.specs.declared.rule.Rule.TheVariants.{DrawWrong}
use Rattle.rule_book.specs.Ranks.{AllDiffer}
use Rattle.rule_book.specs.HeadToHead.{IsDraw, is_draw, wrong_draw}

-- an order that has each of as many members, who differ, is one of them
pub order_of_all : (members order : List ℕ) → AllDiffer members → length order ≡ length members → All (Contains order) members → IsPermutation members order
order_of_all [] [] differ long all = IsPermutation-refl []
order_of_all [] (x ∷ xs) differ long all = absurd (omega (arith, long))
order_of_all (m ∷ ms) order differ long all =
    let (k, lt, e) = All-head (Contains order) m ms all in
    let moved = IsPermutation-remove order k m lt (sym e) in
    let short = length_permutation order (m ∷ remove order k) moved in
    let rest = order_of_all ms (remove order k) (λ i j d lt below. differ (suc i) (suc j) d (omega arith) (omega arith)) (omega (arith, short, long)) (others (remove order k) moved) in
    IsPermutation-trans (m ∷ ms) (m ∷ remove order k) order (IsPermutation-cons m ms (remove order k) rest) (IsPermutation-sym order (m ∷ remove order k) moved)
  where
    others : (left : List ℕ) → IsPermutation order (m ∷ left) → All (Contains left) ms
    others left moved i d below =
        Contains-tail m left (get_or ms i d) (differ 0 (suc i) d (omega arith) (omega arith))
        (Contains-permutation order (m ∷ left) (get_or ms i d) moved (All-tail (Contains order) m ms all i d below))

-- an order has each of its members
pub all_of_draw : (order members : List ℕ) → IsDraw order members → (i d : ℕ) → i < length members → Contains order (get_or members i d)
all_of_draw order members draw i d below =
    Contains-permutation members order (get_or members i d) draw.1 (Contains-get_or members i d below)

-- what a look-up in an order says
pub has_decides : (order : List ℕ) (m : ℕ) (r : Bool) → IsAnyAnswer (λ y b. (y == m) ≡ b) order r → Decides r (Contains order m)
has_decides order m r answer = Decides-contains order m r (contains_decides nat_eq Decides-eqb order m r answer)

Decides-le : (a b : ℕ) → Decides (nat_le a b) (a ≤ b)
Decides-le a b = (leb-true a b, le-leb a b)

all_placed-Decides : (order members : List ℕ) → Decides (list_all (λ m. list_any (nat_eq m) order) members) (All (Contains order) members)
all_placed-Decides order members = ((λ e k d lt. (is_member-Decides unsigned_Decides order (get_or members k d)).0 (AllPass-from_list_all (λ m. list_any (nat_eq m) order) members e k d lt)), (λ all. list_all-from_AllPass (λ m. list_any (nat_eq m) order) members (λ k d lt. (is_member-Decides unsigned_Decides order (get_or members k d)).1 (all k d lt))))

-- the test of a draw, for members who differ
is_draw-Decides : (order members : List ℕ) → AllDiffer members → Decides (is_draw order members) (IsDraw order members)
is_draw-Decides order members differ =
    let placed = Decides-and (length order == length members) (list_all (λ m. list_any (nat_eq m) order) members) (Decides-eqb (length order) (length members)) (all_placed-Decides order members) in
    let all = Decides-and (nat_le 2 (length members)) ((length order == length members) && list_all (λ m. list_any (nat_eq m) order) members) (Decides-le 2 (length members)) placed in
    Decides-like (is_draw order members) (λ h. (h.0, order_of_all members order differ h.1.0 h.1.1)) (λ draw. (draw.0, (length_permutation members order draw.1, all_of_draw order members draw))) all

pub draw_is_right : (order members : List ℕ) → AllDiffer members → IsDraw order members → wrong_draw order members ≡ None
draw_is_right order members differ draw =
    ap (λ t. cond t None (Some DrawWrong)) ((is_draw-Decides order members differ).1 draw)
