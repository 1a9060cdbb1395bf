-- What a draw that nothing refuses leaves of a league.
use Rattle.std.proofs.Common.{◌≡◌, ℕ, ◌==◌, ◌&&◌, nat_le, nat_lt, nat_eq, Bool, true, false, not, List, [], ◌∷◌, Option, Some, None, length, All, Contains, get_or, arith, refl, sym, ◌∙◌, ap}
use Rattle.std.specs.Prelude.{IsPermutation}
use Rattle.std.specs.Cmp.{unsigned_Decides}
use Rattle.std.specs.List.{list_all, list_any}
use Rattle.std.specs.Option.{option_and_then}
use Rattle.std.proofs.lemmas.Bool.{and_parts}
use Rattle.std.proofs.lemmas.Bool.Decides.{nat_tests}
use Rattle.std.proofs.lemmas.List.Sums.{AllPass-from_list_all}
use Rattle.std.proofs.lemmas.Map.Keys.{IsDistinct-IsPermutation}
use Rattle.std.proofs.lemmas.Map.Made.{AllPairs-from_IsDistinct, IsDistinct-from_AllPairs, is_member-Decides}
use Rattle.std.proofs.lemmas.Option.{none-some}
use Rattle.fpl_base.specs.declared.rule.Rule.{Rule}
use Rattle.fpl_base.specs.declared.rule.Rule.TheVariants as rule
use Rattle.rule_book.specs.Entries.{entry_in}
use Rattle.rule_book.specs.HeadToHead.{is_draw, wrong_draw}
use Rattle.rule_book.specs.LeagueCalls.{draw_refusal, is_drawn, is_head}
use Rattle.rule_book.specs.Leagues.{LeagueFacts}
use Rattle.rule_book.specs.Ranks.{AllDiffer}
use Rattle.rule_book.specs.Refusals.{first_broken, unless}
use Rattle.leagues_and_cups.proofs.DrawLemmas.{order_of_all}
use Rattle.leagues_and_cups.specs.Books.{Rise}
use Rattle.leagues_and_cups.proofs.Numbers.{rising_differ}
use Rattle.season_graph.specs.BookChanges.{CanBeDrawn}
use Rattle.season_nodes.proofs.OrderFacts.{drawn_so}

-- a test that does not refuse holds
passed : (t : Bool) (rule : Rule) (more : List (Option Rule)) → first_broken (unless t rule ∷ more) ≡ None → (t ≡ true) × (first_broken more ≡ None)
passed true rule more e = (refl, e)
passed false rule more e = absurd (none-some rule (sym e))

clash : false ≡ true → ⊥
clash e = cc

no_order : (order : List ℕ) → not (not (length order == 0)) ≡ true → order ≡ []
no_order [] e = refl
no_order (x ∷ xs) e = absurd (clash (sym (ap not (some x xs)) ∙ e))
  where
    some : (y : ℕ) (ys : List ℕ) → not (length (y ∷ ys) == 0) ≡ true
    some y ys = grind (arith, nat_tests)

same_length : (m n : ℕ) → (m == n) ≡ true → m ≡ n
same_length m n e = grind (arith, nat_tests)

-- each member has a place
placed : (order members : List ℕ) → list_all (λ m. list_any (nat_eq m) order) members ≡ true → All (Contains order) members
placed order members e k d low = (is_member-Decides unsigned_Decides order (get_or members k d)).0 (AllPass-from_list_all (λ m. list_any (nat_eq m) order) members e k d low)

-- so the order of a draw of members who differ is one of them
moved : (order members : List ℕ) → AllDiffer members → is_draw order members ≡ true → IsPermutation members order
moved order members differ e =
    let long = and_parts (nat_le 2 (length members)) ((length order == length members) && list_all (λ m. list_any (nat_eq m) order) members) e in
    let both = and_parts (length order == length members) (list_all (λ m. list_any (nat_eq m) order) members) long.1 in
    order_of_all members order differ (same_length (length order) (length members) both.0) (placed order members both.1)

-- and those in it differ
others_differ : (members order : List ℕ) → AllDiffer members → IsPermutation members order → AllDiffer order
others_differ members order differ is =
    AllPairs-from_IsDistinct unsigned_Decides order (IsDistinct-IsPermutation nat_eq (λ a b. grind (arith, nat_tests)) members order is (IsDistinct-from_AllPairs unsigned_Decides members differ))

pub can_be_drawn : (leagues : List LeagueFacts) (l : ℕ) (order : List ℕ) (locked : ℕ) (league : LeagueFacts) → entry_in leagues l ≡ Some league → Rise league.members
    → option_and_then (λ x. draw_refusal x order locked) (entry_in leagues l) ≡ None → CanBeDrawn order league
can_be_drawn leagues l order locked league at rise unbroken =
    let all = sym (ap (option_and_then (λ x. draw_refusal x order locked)) at) ∙ unbroken in
    let right : List (Option Rule) = wrong_draw order league.members ∷ [] in
    let heads : List (Option Rule) = unless (is_head league.kind) rule.DrawWrong ∷ right in
    let starts : List (Option Rule) = unless (nat_lt locked league.start) (rule.StartPassed league.start) ∷ heads in
    let undrawn = passed (not (is_drawn league)) rule.LeagueClosed starts all in
    let early = passed (nat_lt locked league.start) (rule.StartPassed league.start) heads undrawn.1 in
    let head = passed (is_head league.kind) rule.DrawWrong right early.1 in
    let draw = passed (is_draw order league.members) rule.DrawWrong [] head.1 in
    let differ = rising_differ league.members rise in
    let is = moved order league.members differ draw.0 in record {
      open_still = no_order league.order undrawn.0;
      drawn = drawn_so league order (others_differ league.members order differ is) is;
    }
