-- How things stand behind outcomes.
use Rattle.std.proofs.Common.{◌≡◌, ◌∙◌, ◌+◌, ◌-◌, ◌<◌, ◌≤◌, ◌⊎◌, append_assoc, ℕ, zero, suc, true, false, cond, not, eqb, ◌||◌, List, [], ◌∷◌, ◌++◌, Option, Some, None, inl, inr, ap, arith, refl, sym, subst}
use Rattle.std.specs.List.{filter, list_any}
use Rattle.std.specs.Prelude.{nat_le}
use Rattle.std.proofs.lemmas.Bool.{cases_eq, eq-eqb, ne_eqb, or_left, or_right}
use Rattle.std.proofs.lemmas.List.Folds.{list_any-append}
use Rattle.fpl_base.specs.declared.kinds.Position.{Position}
use Rattle.draft_league.specs.Holdings.{HasOneOwnerEach, count_in, owner_in}
use Rattle.draft_league.specs.Kept.{AreFair}
use Rattle.draft_league.specs.Leagues.{table_by}
use Rattle.draft_league.specs.Settling.{HasTurn}
use Rattle.draft_league.specs.Waivers.{Table, after, after_all, after_end, bid_in, end_by, end_of, first_order, to_end}
use Rattle.draft_league.specs.declared.kinds.End.TheVariants.{Granted, Owned, Gone}
use Rattle.draft_league.specs.declared.kinds.Outcome.{Outcome}
use Rattle.draft_league.proofs.HoldingLemmas.{apart_exchanged, count_in-exchanged, owned_by_none}

-- ---- one outcome after another

pub after_all-append : (table : Table) (xs ys : List Outcome) → after_all table (xs ++ ys) ≡ after_all (after_all table xs) ys
after_all-append table [] ys = refl
after_all-append table (x ∷ xs) ys = after_all-append (after table x) xs ys

pub fair_append : (table : Table) (xs ys : List Outcome) → AreFair table xs → AreFair (after_all table xs) ys → AreFair table (xs ++ ys)
fair_append table [] ys first then = then
fair_append table (x ∷ xs) ys first then = (first.0, fair_append (after table x) xs ys first.1 then)

-- ---- nobody has two owners

granted_free : (member : ℕ) (into out : Option ℕ) → Granted ≡ end_by member into out → into ≡ None
granted_free member (Some other) out is = cc
granted_free member None out is = refl

apart_after : (table : Table) (outcome : Outcome) → outcome.end ≡ end_of table.held (bid_in outcome) → HasOneOwnerEach table.held → HasOneOwnerEach (after table outcome).held
apart_after table outcome fair apart =
    (elim outcome.end as (λ end. end ≡ end_of table.held (bid_in outcome) → HasOneOwnerEach (after_end table outcome end).held) [
      | Granted ↦ λ is. apart_exchanged outcome.out outcome.into table.held apart
          (owned_by_none table.held outcome.into (granted_free outcome.member (owner_in table.held outcome.into) (owner_in table.held outcome.out) is))
      | Owned ↦ λ is. apart
      | Gone ↦ λ is. apart
    ]) fair

pub apart_after_all : (table : Table) (outcomes : List Outcome) → AreFair table outcomes → HasOneOwnerEach table.held → HasOneOwnerEach (after_all table outcomes).held
apart_after_all table [] fair apart = apart
apart_after_all table (outcome ∷ outcomes) fair apart = apart_after_all (after table outcome) outcomes fair.1 (apart_after table outcome fair.0 apart)

pub apart_by : (g : ℕ) (table : Table) (outcomes : List Outcome) → AreFair table outcomes → HasOneOwnerEach table.held → HasOneOwnerEach (table_by g table outcomes).held
apart_by g table [] fair apart = apart
apart_by g table (outcome ∷ outcomes) fair apart =
    elim (nat_le outcome.gw g) as (λ b. HasOneOwnerEach (cond b (table_by g (after table outcome) outcomes) table).held)
    [ true ↦ apart_by g (after table outcome) outcomes fair.1 (apart_after table outcome fair.0 apart) | false ↦ apart ]

-- ---- how many players of a position a member owns

count_after : (table : Table) (outcome : Outcome) (member : ℕ) (position : Position) → count_in (after table outcome).held member position ≡ count_in table.held member position
count_after table outcome member position =
    elim outcome.end as (λ end. count_in (after_end table outcome end).held member position ≡ count_in table.held member position)
    [ Granted ↦ count_in-exchanged outcome.out outcome.into table.held member position | Owned ↦ refl | Gone ↦ refl ]

pub count_by_week : (g : ℕ) (table : Table) (outcomes : List Outcome) (member : ℕ) (position : Position)
    → count_in (table_by g table outcomes).held member position ≡ count_in table.held member position
count_by_week g table [] member position = refl
count_by_week g table (outcome ∷ outcomes) member position =
    elim (nat_le outcome.gw g) as (λ b. count_in (cond b (table_by g (after table outcome) outcomes) table).held member position ≡ count_in table.held member position)
    [ true ↦ count_by_week g (after table outcome) outcomes member position ∙ count_after table outcome member position | false ↦ refl ]

-- ---- turns

turn_step : (members member : ℕ) → (member ≤ members → HasTurn (first_order members) member) → member ≤ suc members
    → (suc members ≡ member) ⊎ (suc members ≡ member → ⊥) → HasTurn (first_order (suc members)) member
turn_step members member rest high (inl same) =
    or_left (eqb (suc members) member) (list_any (λ o. eqb o member) (first_order members)) (eq-eqb (suc members) member same)
turn_step members member rest high (inr other) =
    or_right (eqb (suc members) member) (list_any (λ o. eqb o member) (first_order members)) (rest (omega arith))

pub turn_first : (members member : ℕ) → 1 ≤ member → member ≤ members → HasTurn (first_order members) member
turn_first zero member low high = absurd (omega arith)
turn_first (suc members) member low high =
    turn_step members member (λ within. turn_first members member low within) high (cases_eq (suc members) member)

-- the others keep their turns
abbrev others : ℕ → List ℕ → List ℕ
others moved order = filter (λ other. not (eqb other moved)) order

others_step : (moved x : ℕ) (order : List ℕ) (member : ℕ) → (moved ≡ member → ⊥) → (HasTurn order member → HasTurn (others moved order) member)
    → HasTurn (x ∷ order) member → (x ≡ moved) ⊎ (x ≡ moved → ⊥) → HasTurn (others moved (x ∷ order)) member
others_step moved x order member other rest has (inl is) =
    let drops : eqb x moved ≡ true = eq-eqb x moved is in
    let differs : eqb x member ≡ false = ne_eqb x member (λ same. other (sym is ∙ same)) in
    let left : HasTurn order member = subst (λ b. (b || list_any (λ o. eqb o member) order) ≡ true) differs has in
    subst (λ b. HasTurn (cond (not b) (x ∷ others moved order) (others moved order)) member) (sym drops) (rest left)
others_step moved x order member other rest has (inr stays) =
    let keeps : eqb x moved ≡ false = ne_eqb x moved stays in
    subst (λ b. HasTurn (cond (not b) (x ∷ others moved order) (others moved order)) member) (sym keeps)
    ((elim (eqb x member) as (λ b. (b || list_any (λ o. eqb o member) order) ≡ true → (b || list_any (λ o. eqb o member) (others moved order)) ≡ true)
    [ true ↦ λ h. h | false ↦ λ h. rest h ]) has)

turn_others : (moved : ℕ) (order : List ℕ) (member : ℕ) → (moved ≡ member → ⊥) → HasTurn order member → HasTurn (others moved order) member
turn_others moved [] member other has = has
turn_others moved (x ∷ order) member other has =
    others_step moved x order member other (λ left. turn_others moved order member other left) has (cases_eq x moved)

turn_to_end : (moved : ℕ) (order : List ℕ) (member : ℕ) → HasTurn order member → HasTurn (to_end moved order) member
turn_to_end moved order member has =
    list_any-append (λ o. eqb o member) (filter (λ o. not (eqb o moved)) order) (moved ∷ []) ∙ by (cases_eq moved member)
  where
    by : (moved ≡ member) ⊎ (moved ≡ member → ⊥) → (list_any (λ o. eqb o member) (filter (λ o. not (eqb o moved)) order) || list_any (λ o. eqb o member) (moved ∷ [])) ≡ true
    by (inl same) = or_right (list_any (λ o. eqb o member) (filter (λ o. not (eqb o moved)) order)) (list_any (λ o. eqb o member) (moved ∷ [])) (or_left (eqb moved member) false (eq-eqb moved member same))
    by (inr other) = or_left (list_any (λ o. eqb o member) (filter (λ o. not (eqb o moved)) order)) (list_any (λ o. eqb o member) (moved ∷ [])) (turn_others moved order member other has)

pub turn_after : (table : Table) (outcome : Outcome) (member : ℕ) → HasTurn table.order member → HasTurn (after table outcome).order member
turn_after table outcome member has =
    elim outcome.end as (λ end. HasTurn (after_end table outcome end).order member)
    [ Granted ↦ turn_to_end outcome.member table.order member has | Owned ↦ has | Gone ↦ has ]

pub turn_after_all : (table : Table) (outcomes : List Outcome) (member : ℕ) → HasTurn table.order member → HasTurn (after_all table outcomes).order member
turn_after_all table [] member has = has
turn_after_all table (outcome ∷ outcomes) member has = turn_after_all (after table outcome) outcomes member (turn_after table outcome member has)

-- the order of so many members, one after another
pub order_more : (order : List ℕ) (members place : ℕ) → place < members → order ++ first_order (members - place) ≡ first_order members
    → (order ++ (members - place) ∷ []) ++ first_order (members - (place + 1)) ≡ first_order members
order_more order members place within so_far =
    let is : members - place ≡ suc (members - (place + 1)) = omega arith in
    let joined : (order ++ (members - place) ∷ []) ++ first_order (members - (place + 1)) ≡ order ++ ((members - place) ∷ first_order (members - (place + 1))) = simp append_assoc in
    joined ∙ ap (λ (n : ℕ). order ++ (n ∷ first_order (members - (place + 1)))) is ∙ sym (ap (λ (n : ℕ). order ++ first_order n) is) ∙ so_far

-- one outcome more
pub after_all-push : (table : Table) (outcomes : List Outcome) (one : Outcome) → after_all table (outcomes ++ one ∷ []) ≡ after (after_all table outcomes) one
after_all-push table outcomes one = after_all-append table outcomes (one ∷ [])
