-- What was judged elsewhere, as tests.
use Rattle.std.proofs.Common.{◌≡◌, ◌≤◌, ◌+◌, ◌^◌, ℕ, Bool, true, false, ◌&&◌, ◌==◌, nat_le, List, length, map, get_or, min, Option, Some, None, Result, Ok, Err, refl, sym, ap, arith}
use Rattle.std.specs.Prelude.{is_none}
use Rattle.std.specs.Result.{is_ok}
use Rattle.std.specs.List.{list_all, list_any, range_with_len}
use Rattle.std.proofs.lemmas.Bool.Decides.{nat_tests}
use Rattle.std.proofs.lemmas.List.Folds.{list_all-map}
use Rattle.std.proofs.lemmas.List.FromFn.{get_or-range_with_len, length-range_with_len}
use Rattle.std.proofs.lemmas.List.{length-map}
use Rattle.fpl_base.specs.declared.rule.Rule.{Rule}
use Rattle.fpl_base.specs.declared.records.RecordKey.{RecordKey}
use Rattle.rule_book.specs.declared.cup.Bracket.{Bracket}
use Rattle.rule_book.specs.Cups.{has_no_bye_tie, has_rounds, is_cup, stands_once, wrong_cup}
use Rattle.rule_book.specs.HeadToHead.{is_draw}
use Rattle.rule_book.specs.Refusals.{IsJudged}
use Rattle.season_records.specs.declared.item.Item.{Item}
use Rattle.season_records.specs.declared.item.Item.TheVariants as item
use Rattle.stored_records.specs.Kept.{other_in}
use Rattle.stored_records.specs.declared.kept.Transfer.{Transfer}
use Rattle.stored_records.proofs.Loops.{any_same}
use Rattle.store_validation.specs.LeagueRules.{has_key}

pub judged_ok : {T : Type 0} (broken : Option Rule) (r : Result T Rule) → IsJudged broken r → is_ok r ≡ is_none broken
judged_ok broken (Ok value) is = sym (ap is_none is)
judged_ok broken (Err rule) is = sym (ap is_none is)

-- before the first gameweek is locked, a cup is refused exactly where it can't be played
pub unstarted : (b : Bracket) (g : ℕ) → 1 ≤ b.start → is_none (wrong_cup b g 0) ≡ is_cup b g
unstarted b g later = by (is_cup b g) refl
  where
    closed : nat_le b.start 0 ≡ false
    closed = grind (arith, nat_tests, later)

    by : (t : Bool) → is_cup b g ≡ t → is_none (wrong_cup b g 0) ≡ is_cup b g
    by true is = rw (closed, is) refl
    by false is = rw (closed, is) refl

-- no more gameweeks count than ten rounds need
pub capped : (b : Bracket) (g : ℕ) → is_cup b (min g (b.start + 10)) ≡ is_cup b g
capped b g = ap (λ t. t && ((length b.coins + 1 == length b.slots) && (stands_once b.slots && has_no_bye_tie b.slots))) rounds
  where
    fits : (r : ℕ) → r ≤ 10 → nat_le (b.start + r) (min g (b.start + 10) + 1) ≡ nat_le (b.start + r) (g + 1)
    fits r few = grind (arith, nat_tests, few)

    rounds : has_rounds b (min g (b.start + 10)) ≡ has_rounds b g
    rounds = any_same (λ r. (length b.slots == 2 ^ r) && nat_le (b.start + r) (min g (b.start + 10) + 1)) (λ r. (length b.slots == 2 ^ r) && nat_le (b.start + r) (g + 1)) (range_with_len 1 10) (λ k d lt.
        let few : get_or (range_with_len 1 10) k d ≤ 10 = omega (arith, get_or-range_with_len 1 10 k d (omega (arith, lt, length-range_with_len 1 10)), lt, length-range_with_len 1 10) in
        ap (λ t. (length b.slots == 2 ^ get_or (range_with_len 1 10) k d) && t) (fits (get_or (range_with_len 1 10) k d) few))

-- of as many members as places, two or more, an order is one where each member has a place
pub places_had : (order : List ℕ) (members : List (RecordKey × List ℕ)) → 2 ≤ length members → length order ≡ length members
    → list_all (λ row. list_any (λ place. row.0.b == place) order) members ≡ is_draw order (map (λ row. row.0.b) members)
places_had order members two same =
    let mapped : length (map (λ row. row.0.b) members) ≡ length members = length-map members (λ (row : RecordKey × List ℕ). row.0.b) in
    let enough : nat_le 2 (length (map (λ row. row.0.b) members)) ≡ true = grind (arith, nat_tests, mapped, two) in
    let as_many : (length order == length (map (λ row. row.0.b) members)) ≡ true = grind (arith, nat_tests, mapped, same) in
    rw (enough, as_many) (sym (list_all-map (λ member. list_any (λ place. member == place) order) (λ (row : RecordKey × List ℕ). row.0.b) members))

-- a transfer has no key
pub key_beside : (key : List ℕ) (o : Option Item) → has_key key (other_in o) ≡ has_key key o
key_beside key None = refl
key_beside key (Some (item.Transfer entry gameweek number out into sold bought)) = refl
key_beside key (Some other) = refl
