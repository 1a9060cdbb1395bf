-- Orders of leagues are orders of their members.
use Rattle.std.proofs.Common.{◌≡◌, ◌≢◌, ℕ, zero, suc, ◌+◌, ◌-◌, ◌≤◌, ◌==◌, Bool, true, false, not, inl, inr, List, [], ◌∷◌, Some, length, get_or, refl, sym, ◌∙◌, subst, arith}
use Rattle.std.specs.Prelude.{IsPermutation, IsTrue}
use Rattle.std.specs.List.{Contains, list_any}
use Rattle.std.proofs.lemmas.Bool.Decides.{nat_tests}
use Rattle.std.proofs.lemmas.List.Folds.{list_any_at}
use Rattle.std.proofs.lemmas.List.Sorted.{Contains-permutation, IsPermutation-sym}
use Rattle.std.proofs.lemmas.Option.{slice_get_within}
use Rattle.rule_book.specs.Entries.{entry_in}
use Rattle.rule_book.specs.LeagueCalls.{is_drawn, is_member, with_member, with_order}
use Rattle.rule_book.specs.Leagues.{LeagueFacts}
use Rattle.rule_book.specs.Ranks.{AllDiffer}
use Rattle.leagues_and_cups.specs.Books.{CanDraw}
use Rattle.leagues_and_cups.proofs.Members.{member_as_before, member_now}
use Rattle.rescore_graph.specs.Graph.{Among}
use Rattle.season_nodes.specs.Places.{numbered}
use Rattle.season_nodes.specs.Season.{AreOrders, IsOrder}

same_test : (n m : ℕ) → n ≡ m → (n == m) ≡ true
same_test n m e = grind (arith, nat_tests)

same_id : (n m : ℕ) → (n == m) ≡ true → n ≡ m
same_id n m e = grind (arith, nat_tests)

contained : (xs : List ℕ) (e : ℕ) → Among xs e → Contains xs e
contained [] e a = absurd a
contained (x ∷ xs) e (inl is) = (zero, omega arith, is)
contained (x ∷ xs) e (inr a) = let r = contained xs e a in (suc r.0, omega (arith, r.1), r.2)

-- who stands in a draw of the members is one of them
drawn_member : (order members : List ℕ) (e : ℕ) → IsPermutation members order → Among order e → list_any (λ m. m == e) members ≡ true
drawn_member order members e moved a =
    let r = Contains-permutation order members e (IsPermutation-sym members order moved) (contained order e a) in
    list_any_at (λ m. m == e) members r.0 e r.1 (same_test (get_or members r.0 e) e r.2)

some_drawn : (order : List ℕ) (e : ℕ) → Among order e → not (length order == 0) ≡ true
some_drawn [] e a = absurd a
some_drawn (x ∷ xs) e a = grind (arith, nat_tests)

-- what a league tells of its order
pub by_order : (league : LeagueFacts) (order : List ℕ) → order ≡ league.order → AllDiffer order → (IsTrue (is_drawn league) → CanDraw order league) → IsOrder league
by_order league order is differ drawn = record {
  differ = subst AllDiffer is differ;
  members = λ e a. drawn_member order league.members e (drawn (some_drawn league.order e a)).draw.1 (subst (λ those. Among those e) (sym is) a);
}

-- a league that was not drawn has an order, and one that is drawn so, or has a member more, keeps one
pub not_drawn : (league : LeagueFacts) → league.order ≡ [] → IsOrder league
not_drawn league none = record {
  differ = subst AllDiffer (sym none) (λ i j d lt within. absurd (omega (arith, within)));
  members = λ e a. absurd (subst (λ those. Among those e) none a);
}

pub drawn_so : (league : LeagueFacts) (order : List ℕ) → AllDiffer order → IsPermutation league.members order → IsOrder (with_order order league)
drawn_so league order differ moved = record { differ = differ; members = λ e a. drawn_member order league.members e moved a }

member_case : (league : LeagueFacts) (e d : ℕ) (t : Bool) → (d == e) ≡ t → is_member league d ≡ true → is_member (with_member e league) d ≡ true
member_case league e d true is old = subst (λ x. is_member (with_member e league) x ≡ true) (sym (same_id d e is)) (member_now league e)
member_case league e d false is old = member_as_before league e d (λ same. clash (sym is ∙ same_test d e same)) ∙ old
  where
    clash : false ≡ true → ⊥
    clash x = cc

pub joined_by : (league : LeagueFacts) (e : ℕ) → IsOrder league → IsOrder (with_member e league)
joined_by league e is = record { differ = is.differ; members = λ d a. member_case league e d (d == e) refl (is.members d a) }

-- the leagues up to one number more
abbrev pub AreOrdersUpTo : List LeagueFacts → ℕ → Type 0
AreOrdersUpTo leagues n = (l : ℕ) (league : LeagueFacts) → l ≤ n → entry_in leagues l ≡ Some league → IsOrder league

none_numbered : (leagues : List LeagueFacts) (league : LeagueFacts) → entry_in leagues 0 ≡ Some league → ⊥
none_numbered leagues league at = cc

pub none_up_to : (leagues : List LeagueFacts) → AreOrdersUpTo leagues 0
none_up_to leagues l league low at =
    let first : l ≡ 0 = omega (arith, low) in
    absurd (none_numbered leagues league (subst (λ k. entry_in leagues k ≡ Some league) first at))

pub one_up_to : (leagues : List LeagueFacts) (n k : ℕ) → AreOrdersUpTo leagues n → k ≡ n + 1 → ((league : LeagueFacts) → entry_in leagues k ≡ Some league → IsOrder league) → AreOrdersUpTo leagues (n + 1)
one_up_to leagues n k so_far next one l league low at = by_case (l == k) refl
  where
    lower : l ≢ k → l ≤ n
    lower other = omega (arith, other, low, next)

    apart : (l == k) ≡ false → l ≢ k
    apart is same = clash (sym is ∙ same_test l k same)
      where
        clash : false ≡ true → ⊥
        clash x = cc

    by_case : (t : Bool) → (l == k) ≡ t → IsOrder league
    by_case true is = one league (subst (λ j. entry_in leagues j ≡ Some league) (same_id l k is) at)
    by_case false is = so_far l league (lower (apart is)) at

number_case : (leagues : List LeagueFacts) (l : ℕ) (league : LeagueFacts) → entry_in leagues l ≡ Some league → l ≤ length leagues
number_case leagues l league at =
    let there = numbered leagues l league (l == 0) refl at in
    let low = slice_get_within leagues (l - 1) league there.1 in
    omega (arith, low, there.0)

pub all_up_to : (leagues : List LeagueFacts) (n : ℕ) → AreOrdersUpTo leagues n → length leagues ≤ n → AreOrders leagues
all_up_to leagues n so_far past l league at = let low = number_case leagues l league at in so_far l league (omega (arith, low, past)) at
