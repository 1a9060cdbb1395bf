-- Transfers made one after another.
use Rattle.std.proofs.Common.{◌≡◌, ℕ, zero, suc, ◌+◌, ◌-◌, ◌<◌, ◌≤◌, Bool, true, false, cond, eqb, List, [], ◌∷◌, map, Option, Some, None, arith, refl, sym, ap, ap₂, ◌∙◌, subst}
use Rattle.rule_book.specs.declared.transfers.Sale.{Sale}
use Rattle.rule_book.specs.EntryRecords.{after_sales, earned_for, paid_for, swapped}
use Rattle.rule_book.specs.History.{Holding}
use Rattle.stored_records.specs.declared.sequels.Traded.{Traded}
use Rattle.stored_records.specs.Sequels.{IsTraded, Trades, all_numbers, and_then_those, and_those, holdings_told, pick_after, sales_from, sales_since}
use Rattle.stored_records.proofs.Numbers.{since_next}

-- all transfers but these are made
pub record IsPartWay (all rest : List Sale) (picks : List (ℕ × ℕ)) (t : Traded) : Type 0 where
  pub squad : after_sales rest (holdings_told t.picks) ≡ after_sales all (holdings_told picks)
  pub paid : t.paid + paid_for rest ≡ paid_for all
  pub earned : t.earned + earned_for rest ≡ earned_for all

abbrev held_as : ℕ × ℕ → Holding
held_as pick = record { player = pick.0; bought = pick.1 }

-- a holding after a transfer is that of the pick after it
chosen : (s : Sale) (pick : ℕ × ℕ) (b : Bool)
    → held_as (cond b (s.into, s.bought) pick) ≡ cond b (held_as (s.into, s.bought)) (held_as pick)
chosen s pick true = refl
chosen s pick false = refl

all_after : (s : Sale) (picks : List (ℕ × ℕ)) → holdings_told (map (pick_after s) picks) ≡ map (swapped s) (holdings_told picks)
all_after s [] = refl
all_after s (pick ∷ picks) = ap₂ (λ k ks. k ∷ ks) (chosen s pick (eqb pick.0 s.out)) (all_after s picks)

-- one more is made
one_more : (all rest : List Sale) (s : Sale) (picks : List (ℕ × ℕ)) (old new : Traded)
    → IsPartWay all (s ∷ rest) picks old → Trades (Some s) old new → IsPartWay all rest picks new
one_more all rest s picks old new way made = record {
  squad = ap (λ picks. after_sales rest (holdings_told picks)) made.0 ∙ ap (after_sales rest) (all_after s old.picks) ∙ way.squad;
  paid = omega (arith, way.paid, made.1);
  earned = omega (arith, way.earned, made.2);
}

all_made : (all : List Sale) (picks : List (ℕ × ℕ)) (t : Traded) → IsPartWay all [] picks t → IsTraded all picks t
all_made all picks t way = record { squad = way.squad; paid = omega (arith, way.paid); earned = omega (arith, way.earned) }

-- what is left from a number on
abbrev pub left_from : (ℕ → Option Sale) → ℕ → List Sale
left_from told n = sales_from told (1001 - n) n

pub one_ahead : (told : ℕ → Option Sale) (k n : ℕ) → sales_from told (suc k) n ≡ and_then_those (told n) (sales_from told k (n + 1))
unfolding sales_from
one_ahead told k n = refl

pub none_ahead : (told : ℕ → Option Sale) (n : ℕ) → sales_from told zero n ≡ []
unfolding sales_from
none_ahead told n = refl

pub left_next : (told : ℕ → Option Sale) (n : ℕ) → n ≤ 1000 → left_from told n ≡ and_then_those (told n) (left_from told (n + 1))
left_next told n few =
    let k : 1001 - n ≡ suc (1001 - (n + 1)) = omega arith in
    ap (λ j. sales_from told j n) k ∙ one_ahead told (1001 - (n + 1)) n

pub left_none : (told : ℕ → Option Sale) (n : ℕ) → 1001 ≤ n → left_from told n ≡ []
left_none told n many =
    let k : 1001 - n ≡ zero = omega arith in
    ap (λ j. sales_from told j n) k ∙ none_ahead told n

-- one step: the transfer of a number is made, if there is one
stepped : (all rest : List Sale) (o : Option Sale) (picks : List (ℕ × ℕ)) (old new : Traded)
    → IsPartWay all (and_those o rest) picks old → Trades o old new → IsPartWay all rest picks new
stepped all rest None picks old new way made = subst (IsPartWay all rest picks) (sym made) way
stepped all rest (Some s) picks old new way made = one_more all rest s picks old new way made

module _ (all : List Sale) (told : ℕ → Option Sale) (from : ℕ) (picks : List (ℕ × ℕ)) where
  pub goes_past : (n : ℕ) (old new : Traded) → n < all_numbers → IsPartWay all (sales_since told from) picks old → sales_since told from ≡ sales_since told n
      → Trades (told n) old new → IsPartWay all (sales_since told (n + 1)) picks new
  goes_past n old new less way same made =
      stepped all (sales_since told (n + 1)) (told n) picks old new
      (subst (λ left. IsPartWay all left picks old) (same ∙ since_next told n less) way) made

  pub ends_at : (t : Traded) → IsPartWay all (sales_since told from) picks t → sales_since told from ≡ [] → IsTraded all picks t
  ends_at t way none = all_made all picks t (subst (λ left. IsPartWay all left picks t) none way)

pub starts : (sales : List Sale) (picks : List (ℕ × ℕ)) → IsPartWay sales sales picks (record { picks = picks; paid = 0; earned = 0 })
starts sales picks = record { squad = refl; paid = omega arith; earned = omega arith }
