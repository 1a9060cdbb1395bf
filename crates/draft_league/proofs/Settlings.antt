-- Bids that are settled one after another.
use Rattle.std.proofs.Common.{◌≡◌, ◌∙◌, ◌<◌, ◌⊎◌, ℕ, zero, suc, Bool, true, false, cond, eqb, ◌||◌, List, [], ◌∷◌, ◌++◌, length, map, take, drop, get_or, MatchOption, Option, Some, None, inl, inr, ap, append_assoc, append-nil, arith, refl, sym, subst}
use Rattle.std.proofs.lemmas.List.{length-take, take-append-drop}
use Rattle.std.proofs.Math.Seq.{drop-cons}
use Rattle.std.specs.List.{AllByRecursion as Each, filter, find, list_any, remove}
use Rattle.std.proofs.lemmas.Bool.{cases_Bool, eq-eqb, eqb-true, or_left, or_parts}
use Rattle.std.proofs.lemmas.List.Elements.{filter-append}
use Rattle.draft_league.specs.Kept.{AreFair}
use Rattle.draft_league.specs.Settling.{HasTurn, IsFirst, IsNext}
use Rattle.draft_league.specs.Waivers.{AreSettled, Table, after, after_all, bid_in, bids_of, end_of, first_with, has_bid, settled_as}
use Rattle.draft_league.specs.declared.kinds.Bid.{Bid}
use Rattle.draft_league.specs.declared.kinds.Outcome.{Outcome}

-- the next of the bids that are left is settled
pub record SettlesFirst (table : Table) (left : List Bid) (outcome : Outcome) (front rest : List Bid) : Type 0 where
  pub parts : left ≡ front ++ bid_in outcome ∷ rest
  pub none_before : has_bid front outcome.member ≡ false
  pub turn : first_with left table.order ≡ Some outcome.member
  pub end : outcome.end ≡ end_of table.held (bid_in outcome)

-- these bids are settled one after another, and these are their outcomes
abbrev pub SettlesOn : Table → List Bid → List Outcome → Type 0
SettlesOn table left [] = left ≡ []
SettlesOn table left (outcome ∷ outcomes) =
    (front : List Bid) × (rest : List Bid) × SettlesFirst table left outcome front rest × SettlesOn (after table outcome) (front ++ rest) outcomes

-- ---- a member's bids

no_bids : (bids : List Bid) (member : ℕ) → has_bid bids member ≡ false → bids_of member bids ≡ []
no_bids [] member none = refl
no_bids (bid ∷ bids) member none =
    let parts = or_parts (eqb bid.member member) (has_bid bids member) none in
    subst (λ b. cond b (bid ∷ bids_of member bids) (bids_of member bids) ≡ []) (sym parts.0) (no_bids bids member parts.1)

abbrev some_of : List Bid → Bool
some_of [] = false
some_of (bid ∷ bids) = true

has_by_bids : (bids : List Bid) (member : ℕ) → has_bid bids member ≡ some_of (bids_of member bids)
has_by_bids [] member = refl
has_by_bids (bid ∷ bids) member =
    elim (eqb bid.member member) as (λ b. (b || has_bid bids member) ≡ some_of (cond b (bid ∷ bids_of member bids) (bids_of member bids)))
    [ true ↦ refl | false ↦ has_by_bids bids member ]

has_same : (xs ys : List Bid) (member : ℕ) → bids_of member xs ≡ bids_of member ys → has_bid xs member ≡ has_bid ys member
has_same xs ys member same = has_by_bids xs member ∙ ap some_of same ∙ sym (has_by_bids ys member)

find_same : (p q : ℕ → Bool) → ((n : ℕ) → p n ≡ q n) → (xs : List ℕ) → find p xs ≡ find q xs
find_same p q same [] = refl
find_same p q same (x ∷ xs) = ap (λ b. cond b (Some x) (find p xs)) (same x) ∙ ap (λ more. cond (q x) (Some x) more) (find_same p q same xs)

first_same : (xs ys : List Bid) (order : List ℕ) → ((member : ℕ) → bids_of member xs ≡ bids_of member ys) → first_with xs order ≡ first_with ys order
first_same xs ys order same = find_same (has_bid xs) (has_bid ys) (λ member. has_same xs ys member (same member)) order

-- a bid before which stand none of its member is taken out
one_taken : (member : ℕ) (front rest : List Bid) (bid : Bid) (xs : List Bid) → has_bid front bid.member ≡ false
    → bids_of member xs ≡ bids_of member (front ++ rest) → bids_of member (bid ∷ xs) ≡ bids_of member (front ++ bid ∷ rest)
one_taken member front rest bid xs none is =
    by (cases_Bool (eqb bid.member member)) ∙ sym (filter-append (λ (b : Bid). eqb b.member member) front (bid ∷ rest))
  where
    joined : bids_of member xs ≡ bids_of member front ++ bids_of member rest
    joined = is ∙ filter-append (λ (b : Bid). eqb b.member member) front rest

    by : (eqb bid.member member ≡ true) ⊎ (eqb bid.member member ≡ false) → bids_of member (bid ∷ xs) ≡ bids_of member front ++ bids_of member (bid ∷ rest)
    by (inl own) =
        let empty : bids_of member front ≡ [] = no_bids front member (subst (λ m. has_bid front m ≡ false) (eqb-true bid.member member own) none) in
        subst (λ b. cond b (bid ∷ bids_of member xs) (bids_of member xs) ≡ bids_of member front ++ cond b (bid ∷ bids_of member rest) (bids_of member rest)) (sym own)
        (subst (λ f. bid ∷ bids_of member xs ≡ f ++ (bid ∷ bids_of member rest)) (sym empty)
        (ap (λ more. bid ∷ more) (joined ∙ ap (λ f. f ++ bids_of member rest) empty)))
    by (inr other) =
        subst (λ b. cond b (bid ∷ bids_of member xs) (bids_of member xs) ≡ bids_of member front ++ cond b (bid ∷ bids_of member rest) (bids_of member rest)) (sym other) joined

settles_each : (table : Table) (left : List Bid) (outcomes : List Outcome) → SettlesOn table left outcomes
    → (member : ℕ) → bids_of member (map bid_in outcomes) ≡ bids_of member left
settles_each table left [] none member = sym (ap (bids_of member) none)
settles_each table left (outcome ∷ outcomes) on member =
    one_taken member on.0 on.1 (bid_in outcome) (map bid_in outcomes) on.2.none_before (settles_each (after table outcome) (on.0 ++ on.1) outcomes on.3 member)
    ∙ sym (ap (bids_of member) on.2.parts)

-- ---- the outcomes

head_same : (a b : Outcome) (xs ys : List Outcome) → a ∷ xs ≡ b ∷ ys → a ≡ b
head_same a b xs ys is = cc

rest_same : (a b : Outcome) (xs ys : List Outcome) → a ∷ xs ≡ b ∷ ys → xs ≡ ys
rest_same a b xs ys is = cc

none_split : (earlier later : List Outcome) (one : Outcome) → [] ≡ earlier ++ one ∷ later → ⊥
none_split [] later one is = cc
none_split (x ∷ earlier) later one is = cc

settles_turns : (table : Table) (left : List Bid) (outcomes : List Outcome) → SettlesOn table left outcomes
    → (earlier later : List Outcome) (one : Outcome) → outcomes ≡ earlier ++ one ∷ later
    → first_with (map bid_in (one ∷ later)) (after_all table earlier).order ≡ Some one.member
settles_turns table left [] none earlier later one is = absurd (none_split earlier later one is)
settles_turns table left (outcome ∷ outcomes) on [] later one is =
    let here : first_with (map bid_in (outcome ∷ outcomes)) table.order ≡ Some outcome.member =
    first_same (map bid_in (outcome ∷ outcomes)) left table.order (settles_each table left (outcome ∷ outcomes) on) ∙ on.2.turn in
    subst (λ (o : Outcome). first_with (map bid_in (o ∷ later)) table.order ≡ Some o.member) (head_same outcome one outcomes later is)
    (subst (λ (os : List Outcome). first_with (map bid_in (outcome ∷ os)) table.order ≡ Some outcome.member) (rest_same outcome one outcomes later is) here)
settles_turns table left (outcome ∷ outcomes) on (x ∷ earlier) later one is =
    subst (λ (o : Outcome). first_with (map bid_in (one ∷ later)) (after_all (after table o) earlier).order ≡ Some one.member) (head_same outcome x outcomes (earlier ++ one ∷ later) is)
    (settles_turns (after table outcome) (on.0 ++ on.1) outcomes on.3 earlier later one (rest_same outcome x outcomes (earlier ++ one ∷ later) is))

settles_ends : (table : Table) (left : List Bid) (outcomes : List Outcome) → SettlesOn table left outcomes
    → (earlier later : List Outcome) (one : Outcome) → outcomes ≡ earlier ++ one ∷ later → one.end ≡ end_of (after_all table earlier).held (bid_in one)
settles_ends table left [] none earlier later one is = absurd (none_split earlier later one is)
settles_ends table left (outcome ∷ outcomes) on [] later one is =
    subst (λ (o : Outcome). o.end ≡ end_of table.held (bid_in o)) (head_same outcome one outcomes later is) on.2.end
settles_ends table left (outcome ∷ outcomes) on (x ∷ earlier) later one is =
    subst (λ (o : Outcome). one.end ≡ end_of (after_all (after table o) earlier).held (bid_in one)) (head_same outcome x outcomes (earlier ++ one ∷ later) is)
    (settles_ends (after table outcome) (on.0 ++ on.1) outcomes on.3 earlier later one (rest_same outcome x outcomes (earlier ++ one ∷ later) is))

pub are_settled : (table : Table) (left : List Bid) (outcomes : List Outcome) → SettlesOn table left outcomes → AreSettled table left outcomes
are_settled table left outcomes on = record {
  each = settles_each table left outcomes on;
  turns = settles_turns table left outcomes on;
  ends = settles_ends table left outcomes on;
}

pub are_fair : (table : Table) (left : List Bid) (outcomes : List Outcome) → SettlesOn table left outcomes → AreFair table outcomes
are_fair table left [] none = tt
are_fair table left (outcome ∷ outcomes) on = (on.2.end, are_fair (after table outcome) (on.0 ++ on.1) outcomes on.3)

-- ---- which bid is next

-- a bid stands at the place behind the front, and without it the front and the rest are left
pub bid_at : (front rest : List Bid) (bid other : Bid) → get_or (front ++ bid ∷ rest) (length front) other ≡ bid
bid_at [] rest bid other = refl
bid_at (x ∷ front) rest bid other = bid_at front rest bid other

pub bid_removed : (front rest : List Bid) (bid : Bid) → remove (front ++ bid ∷ rest) (length front) ≡ front ++ rest
bid_removed [] rest bid = refl
bid_removed (x ∷ front) rest bid = ap (λ more. x ∷ more) (bid_removed front rest bid)

-- a test that finds something holds of it
none_is_some : (x : ℕ) → None ≡ Some x → ⊥
none_is_some x is = cc

some_is_some : (x y : ℕ) → Some y ≡ Some x → y ≡ x
some_is_some x y is = cc

found_step : (p : ℕ → Bool) (y : ℕ) (xs : List ℕ) (x : ℕ) → (find p xs ≡ Some x → p x ≡ true) → find p (y ∷ xs) ≡ Some x → (p y ≡ true) ⊎ (p y ≡ false) → p x ≡ true
found_step p y xs x rest is (inl holds) =
    subst (λ n. p n ≡ true) (some_is_some x y (subst (λ b. cond b (Some y) (find p xs) ≡ Some x) holds is)) holds
found_step p y xs x rest is (inr fails) = rest (subst (λ b. cond b (Some y) (find p xs) ≡ Some x) fails is)

pub found_holds : (p : ℕ → Bool) (xs : List ℕ) (x : ℕ) → find p xs ≡ Some x → p x ≡ true
found_holds p [] x is = absurd (none_is_some x is)
found_holds p (y ∷ xs) x is = found_step p y xs x (λ more. found_holds p xs x more) is (cases_Bool (p y))

-- nothing is found only where no bid is left, if each member has a turn
true_is_false : true ≡ false → ⊥
true_is_false is = cc

some_is_none : (y : ℕ) → Some y ≡ None → ⊥
some_is_none y is = cc

nothing_step : (p : ℕ → Bool) (y : ℕ) (xs : List ℕ) (x : ℕ) → (list_any (λ other. eqb other x) xs ≡ true → find p xs ≡ None → ⊥)
    → list_any (λ other. eqb other x) (y ∷ xs) ≡ true → p x ≡ true → find p (y ∷ xs) ≡ None
    → (eqb y x ≡ true) ⊎ (eqb y x ≡ false) → (p y ≡ true) ⊎ (p y ≡ false) → ⊥
nothing_step p y xs x rest is holds none same (inl found) = some_is_none y (subst (λ b. cond b (Some y) (find p xs) ≡ None) found none)
nothing_step p y xs x rest is holds none (inl same) (inr fails) = true_is_false (sym holds ∙ sym (ap p (eqb-true y x same)) ∙ fails)
nothing_step p y xs x rest is holds none (inr other) (inr fails) =
    rest (subst (λ b. (b || list_any (λ o. eqb o x) xs) ≡ true) other is) (subst (λ b. cond b (Some y) (find p xs) ≡ None) fails none)

nothing_of : (p : ℕ → Bool) (xs : List ℕ) (x : ℕ) → list_any (λ other. eqb other x) xs ≡ true → p x ≡ true → find p xs ≡ None → ⊥
nothing_of p [] x is holds none = true_is_false (sym is)
nothing_of p (y ∷ xs) x is holds none =
    nothing_step p y xs x (λ more gone. nothing_of p xs x more holds gone) is holds none (cases_Bool (eqb y x)) (cases_Bool (p y))

pub none_left : (order : List ℕ) (left : List Bid) → Each (λ (bid : Bid). HasTurn order bid.member) left → first_with left order ≡ None → left ≡ []
none_left order [] turns none = refl
none_left order (bid ∷ left) turns none =
    absurd (nothing_of (has_bid (bid ∷ left)) order bid.member turns.0
    (or_left (eqb bid.member bid.member) (has_bid left bid.member) (eq-eqb bid.member bid.member refl)) none)

-- ---- the loop

-- so many bids were settled, and these are left: whatever becomes of these is the end of all
abbrev pub IsUnderway : Table → List Bid → List Outcome → Table → List Bid → Type 0
IsUnderway start bids done table left = (rest : List Outcome) → SettlesOn table left rest → SettlesOn start bids (done ++ rest)

pub underway_more : (start : Table) (bids : List Bid) (done : List Outcome) (table : Table) (left : List Bid) (place : ℕ) (bid : Bid) (outcome : Outcome)
    → IsUnderway start bids done table left → IsNext table.order left place → bid ≡ get_or left place bid → outcome ≡ settled_as bid (end_of table.held bid)
    → IsUnderway start bids (done ++ outcome ∷ []) (after table outcome) (remove left place)
underway_more start bids done table left place bid outcome on next is settled rest more =
    let first = next.first in
    let told : bid_in outcome ≡ bid = ap bid_in settled in
    let read : get_or left place bid ≡ first.bid =
    ap (λ xs. get_or xs place bid) first.parts ∙ ap (λ n. get_or (first.front ++ first.bid ∷ first.rest) n bid) (sym first.place_is) ∙ bid_at first.front first.rest first.bid bid in
    let same : bid_in outcome ≡ first.bid = told ∙ is ∙ read in
    let member : outcome.member ≡ next.member = ap (λ (b : Bid). b.member) same ∙ first.own in
    let taken : remove left place ≡ first.front ++ first.rest =
    ap (λ xs. remove xs place) first.parts ∙ ap (λ n. remove (first.front ++ first.bid ∷ first.rest) n) (sym first.place_is) ∙ bid_removed first.front first.rest first.bid in
    let settles : SettlesFirst table left outcome first.front first.rest = record {
      parts = first.parts ∙ ap (λ b. first.front ++ b ∷ first.rest) (sym same);
      none_before = subst (λ m. has_bid first.front m ≡ false) (sym member) first.none_before;
      turn = next.turn ∙ ap Some (sym member);
      end = ap (λ (o : Outcome). o.end) settled ∙ ap (end_of table.held) (sym told);
    } in
    let joined : (done ++ outcome ∷ []) ++ rest ≡ done ++ outcome ∷ rest = simp append_assoc in
    subst (λ (os : List Outcome). SettlesOn start bids os) (sym joined)
    (on (outcome ∷ rest) (first.front, first.rest, settles, subst (λ xs. SettlesOn (after table outcome) xs rest) taken more))

pub underway_end : (start : Table) (bids : List Bid) (done : List Outcome) (table : Table) (left : List Bid)
    → IsUnderway start bids done table left → left ≡ [] → SettlesOn start bids done
underway_end start bids done table left on none =
    let joined : done ++ [] ≡ done = simp append-nil in
    subst (λ (os : List Outcome). SettlesOn start bids os) joined (on [] none)

-- those that are left have turns when one is taken out
pub turns_removed : (P : Bid → Type 0) (left : List Bid) (place : ℕ) → Each P left → Each P (remove left place)
turns_removed P [] zero each = each
turns_removed P [] (suc place) each = each
turns_removed P (bid ∷ left) zero each = each.1
turns_removed P (bid ∷ left) (suc place) each = (each.0, turns_removed P left place each.1)

pub each_on : (P Q : Bid → Type 0) → ((bid : Bid) → P bid → Q bid) → (bids : List Bid) → Each P bids → Each Q bids
each_on P Q on [] each = tt
each_on P Q on (bid ∷ bids) each = (on bid each.0, each_on P Q on bids each.1)

pub each_filter : (P : Bid → Type 0) (p : Bid → Bool) (bids : List Bid) → Each P bids → Each P (filter p bids)
each_filter P p [] each = tt
each_filter P p (bid ∷ bids) each =
    elim (p bid) as (λ b. Each P (cond b (bid ∷ filter p bids) (filter p bids))) [ true ↦ (each.0, each_filter P p bids each.1) | false ↦ each_filter P p bids each.1 ]

-- the first of the order who has a bid left, and his first bid
pub next_of : (order : List ℕ) (left : List Bid) (member : ℕ) (place : Option ℕ) → Some member ≡ first_with left order
    → MatchOption place (has_bid left member ≡ false) (IsFirst left member) → MatchOption place (first_with left order ≡ None) (IsNext order left)
next_of order left member None is none = absurd (true_is_false (sym (found_holds (has_bid left) order member (sym is)) ∙ none))
next_of order left member (Some place) is first = record { member = member; first = first; turn = sym is }

-- a bid of the member at a place before which he has none
pub first_at : (bids : List Bid) (member place : ℕ) (bid : Bid) → place < length bids → bid ≡ get_or bids place bid → bid.member ≡ member → has_bid (take place bids) member ≡ false
    → IsFirst bids member place
first_at bids member place bid within is own none = record {
  front = take place bids;
  bid = bid;
  rest = drop (suc place) bids;
  parts = sym (take-append-drop place bids) ∙ ap (λ more. take place bids ++ more) (drop-cons bids place bid within ∙ ap (λ b. b ∷ drop (suc place) bids) (sym is));
  place_is = simp length-take (omega arith);
  own = own;
  none_before = none;
}
