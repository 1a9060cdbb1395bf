-- What the members of a league and the order of its draw are.
use Rattle.std.proofs.Common.{◌≡◌, ◌≢◌, ◌∙◌, ap, refl, ℕ, ◌<◌, ◌≤◌, true, false, List, [], ◌∷◌, length, ◌&&◌, ◌||◌, arith}
use Rattle.std.specs.Prelude.{IsPermutation, IsTrue, nat_eq, nat_lt, not, ◌==◌}
use Rattle.std.specs.List.{All, filter, list_any}
use Rattle.std.specs.Cmp.{unsigned_Decides}
use Rattle.std.proofs.lemmas.Bool.Decides.{nat_tests}
use Rattle.std.proofs.lemmas.List.Elements.{All-cons}
use Rattle.std.proofs.lemmas.List.Folds.{list_any-append}
use Rattle.std.proofs.lemmas.List.Sorted.{length_permutation}
use Rattle.std.proofs.lemmas.Map.Keys.{IsDistinct-IsPermutation}
use Rattle.std.proofs.lemmas.Map.Made.{AllPairs-from_IsDistinct, IsDistinct-from_AllPairs}
use Rattle.std.proofs.lemmas.Map.Views.{any-filter_same}
use Rattle.rule_book.specs.declared.league.LeagueKind.{LeagueKind}
use Rattle.rule_book.specs.declared.league.LeagueKind.TheVariants as kind
use Rattle.rule_book.specs.HeadToHead.{IsDraw}
use Rattle.rule_book.specs.LeagueCalls.{is_head, is_member, most_members, with_member}
use Rattle.rule_book.specs.Leagues.{LeagueFacts}
use Rattle.rule_book.specs.Ranks.{AllDiffer}
use Rattle.leagues_and_cups.specs.Books.{CanDraw, CanEnter, IsLeague, Rise}
use Rattle.leagues_and_cups.proofs.Numbers.{few_with, rise_with, rising_differ, some_with}

-- who differ still differ in another order
others_differ : (members order : List ℕ) → AllDiffer members → IsPermutation members order → AllDiffer order
others_differ members order differ moved =
    AllPairs-from_IsDistinct unsigned_Decides order (IsDistinct-IsPermutation nat_eq (λ a b. grind (arith, nat_tests)) members order moved (IsDistinct-from_AllPairs unsigned_Decides members differ))

-- those in the order of a draw differ; before it there are none
order_differs_by : (members order : List ℕ) → Rise members → (IsTrue (not (length order == 0)) → IsDraw order members) → AllDiffer order
order_differs_by members [] rise drawn = λ i j d lt within. absurd (omega arith)
order_differs_by members (e ∷ order) rise drawn = others_differ members (e ∷ order) (rising_differ members rise) (drawn (grind (arith, nat_tests))).1

pub order_differs : (league : LeagueFacts) → IsLeague league → AllDiffer league.order
order_differs league is = order_differs_by league.members league.order is.rise (λ drawn. (is.drawn drawn).draw)

-- and there are at most 64
most_of_head : (k : LeagueKind) → is_head k ≡ true → most_members k ≡ 64
most_of_head kind.Classic head = absurd (cc head)
most_of_head kind.Head head = refl

few_by : (league : LeagueFacts) (order : List ℕ) → league.order ≡ order → IsLeague league → length order ≤ 64
few_by league [] e is = omega arith
few_by league (m ∷ order) e is =
    let can : CanDraw league.order league = is.drawn (rw e (grind (arith, nat_tests))) in
    let moved = length_permutation league.members league.order can.draw.1 in
    omega (arith, ap length e, moved, is.few, most_of_head league.kind can.head)

two_by : (league : LeagueFacts) (order : List ℕ) → league.order ≡ order → IsLeague league → 0 < length order → 2 ≤ length order
two_by league [] e is some = absurd (omega arith)
two_by league (m ∷ order) e is some =
    let can : CanDraw league.order league = is.drawn (rw e (grind (arith, nat_tests))) in
    omega (arith, ap length e, length_permutation league.members league.order can.draw.1, can.draw.0)

pub two_in_order : (league : LeagueFacts) → IsLeague league → 0 < length league.order → 2 ≤ length league.order
two_in_order league is some = two_by league league.order refl is some

pub few_in_order : (league : LeagueFacts) → IsLeague league → length league.order ≤ 64
few_in_order league is = few_by league league.order refl is

-- who is no member is none of the members
none_by : (members : List ℕ) (e : ℕ) → list_any (λ m. m == e) members ≡ false → All (λ m. m ≢ e) members
none_by [] e none = λ k d lt. absurd (omega arith)
none_by (m ∷ members) e none = All-cons (λ m. m ≢ e) m members (grind (arith, nat_tests)) (none_by members e (grind (arith, nat_tests)))

module _ (league : LeagueFacts) (e : ℕ) where
  pub no_member : is_member league e ≡ false → All (λ m. m ≢ e) league.members
  no_member none = none_by league.members e none

  -- with one member more, he is one, and of the others the same are
  small : (d : ℕ) → list_any (λ m. m == d) (filter (λ m. nat_lt m e) league.members) ≡ (nat_lt d e && is_member league d)
  small d = any-filter_same (λ m. m == d) (λ m. nat_lt m e) (nat_lt d e) (λ k same. grind (arith, nat_tests)) league.members

  large : (d : ℕ) → list_any (λ m. m == d) (filter (λ m. nat_lt e m) league.members) ≡ (nat_lt e d && is_member league d)
  large d = any-filter_same (λ m. m == d) (λ m. nat_lt e m) (nat_lt e d) (λ k same. grind (arith, nat_tests)) league.members

  among : (d : ℕ) → is_member (with_member e league) d ≡ ((nat_lt d e && is_member league d) || ((e == d) || (nat_lt e d && is_member league d)))
  among d = list_any-append (λ m. m == d) (filter (λ m. nat_lt m e) league.members) (e ∷ filter (λ m. nat_lt e m) league.members) ∙ rw (small d, large d) refl

  pub member_now : is_member (with_member e league) e ≡ true
  member_now = among e ∙ grind (arith, nat_tests)

  pub member_as_before : (d : ℕ) → d ≢ e → is_member (with_member e league) d ≡ is_member league d
  member_as_before d other = among d ∙ grind (arith, nat_tests)

  -- and it is a league as before
  pub entered : IsLeague league → CanEnter league e → IsLeague (with_member e league)
  entered is can = record {
    rise = rise_with e league.members is.rise;
    some = some_with e league.members;
    few = omega (arith, few_with e league.members, can.room);
    drawn = λ drawn. absurd (grind (arith, nat_tests, drawn, can.open_still));
  }
