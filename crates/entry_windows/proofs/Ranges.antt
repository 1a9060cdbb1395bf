-- Rows of gameweeks that are written one by one.
use Rattle.std.proofs.Common.{◌≡◌, ◌≤◌, ◌+◌, ◌-◌, ◌++◌, ℕ, suc, Bool, true, false, List, [], ◌∷◌, Some, Ok, arith, cond, append_assoc, append-nil, refl, sym, ap, ◌∙◌, if◌then◌else◌}
use Rattle.std.specs.List.{filter, range_with_len}
use Rattle.std.proofs.lemmas.Option.{none-some, same_Some}
use Rattle.json.specs.Token.{Token}
use Rattle.json.specs.Written.{Written}
use Rattle.serde_json.specs.Data.{Data}
use Rattle.json_members.specs.Members.{no_list}
use Rattle.json_members.specs.Tokens.{Appends, tokens_of}
use Rattle.json_members.proofs.ListLemmas.{rest_of}
use Rattle.rule_book.specs.History.{Event}
use Rattle.rule_book.specs.HistoryRules.{first_gw}
use Rattle.rule_book.specs.UpTo.{start_of}
use Rattle.season_book.specs.Book.{Facts}
use Rattle.season_book.specs.Windows.{listed}
use Rattle.season_book.specs.HistoryWindow.{gameweeks_of}

module _ (f : ℕ → Data) where
  -- the row of the first of some gameweeks is written, and those of the others are left
  pub row_written : {u : Unit {0}} {a b : Written} {whole : List Token} (from n m : ℕ) → n ≡ suc m → Appends (Ok u) a b (tokens_of (f from))
      → a.tokens ++ rest_of f (range_with_len from n) ≡ whole → b.tokens ++ rest_of f (range_with_len (from + 1) m) ≡ whole
  row_written {a = a} from n m is wrote so =
      ap (λ l. l ++ rest_of f (range_with_len (from + 1) m)) wrote.tokens
      ∙ append_assoc a.tokens (tokens_of (f from)) (rest_of f (range_with_len (from + 1) m))
      ∙ ap (λ k. a.tokens ++ rest_of f (range_with_len from k)) (sym is)
      ∙ so

  -- so it is where the row is written only if it passes
  module _ (test : ℕ → Bool) where
    by_test : {u : Unit {0}} {a b : Written} (from : ℕ) (left : List ℕ) (t : Bool) → Appends (Ok u) a b (if t then tokens_of (f from) else [])
        → b.tokens ++ rest_of f left ≡ a.tokens ++ rest_of f (cond t (from ∷ left) left)
    by_test {a = a} from left true wrote = ap (λ l. l ++ rest_of f left) wrote.tokens ∙ append_assoc a.tokens (tokens_of (f from)) (rest_of f left)
    by_test {a = a} from left false wrote = ap (λ l. l ++ rest_of f left) (wrote.tokens ∙ append-nil a.tokens)

    pub kept_written : {u : Unit {0}} {a b : Written} {whole : List Token} (from n m : ℕ) → n ≡ suc m → Appends (Ok u) a b (if test from then tokens_of (f from) else [])
        → a.tokens ++ rest_of f (filter test (range_with_len from n)) ≡ whole → b.tokens ++ rest_of f (filter test (range_with_len (from + 1) m)) ≡ whole
    kept_written {a = a} from n m is wrote so =
        by_test from (filter test (range_with_len (from + 1) m)) (test from) wrote
        ∙ ap (λ k. a.tokens ++ rest_of f (filter test (range_with_len from k))) (sym is)
        ∙ so

-- The gameweeks of a history from its first on, as they are counted from those that passed before it.
first_is : (h : List Event) (first : ℕ) → start_of h ≡ Some first → first_gw h ≡ first
first_is [] first is = absurd (none-some first is)
first_is (e ∷ h) first is = same_Some e.gw first is

pub gameweeks_from : (facts : Facts) (h : List Event) (first passed : ℕ) → start_of h ≡ Some first → 1 ≤ first → passed ≡ first - 1
    → gameweeks_of facts h ≡ range_with_len (passed + 1) (facts.calendar.locked - passed)
gameweeks_from facts h first passed start one is =
    let begins : first ≡ passed + 1 = omega (arith, one, is) in
    let long : (facts.calendar.locked + 1) - first ≡ facts.calendar.locked - passed = omega (arith, begins) in
    ap (λ k. range_with_len k ((facts.calendar.locked + 1) - k)) (first_is h first start)
    ∙ ap (range_with_len first) long
    ∙ ap (λ k. range_with_len k (facts.calendar.locked - passed)) begins

-- none of the gameweeks is left behind the last
pub none_left : (f : ℕ → Data) (from n : ℕ) → n ≡ 0 → rest_of f (range_with_len from n) ≡ Token.end_array ∷ []
none_left f from n none = ap (λ k. rest_of f (range_with_len from k)) none

pub none_kept : (f : ℕ → Data) (test : ℕ → Bool) (from n : ℕ) → n ≡ 0 → rest_of f (filter test (range_with_len from n)) ≡ Token.end_array ∷ []
none_kept f test from n none = ap (λ k. rest_of f (filter test (range_with_len from k))) none

-- and there are none where nothing is locked
pub none_locked : (f : ℕ → Data) (facts : Facts) (h : List Event) (first : ℕ) → start_of h ≡ Some first → 1 ≤ first → facts.calendar.locked ≡ 0
    → tokens_of no_list ≡ tokens_of (listed f (gameweeks_of facts h))
none_locked f facts h first start one none =
    let left : facts.calendar.locked - (first - 1) ≡ 0 = omega (arith, none) in
    sym (ap (λ gs. tokens_of (listed f gs)) (gameweeks_from facts h first (first - 1) start one refl ∙ ap (range_with_len (first - 1 + 1)) left))
