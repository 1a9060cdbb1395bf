-- The transfers of a gameweek are added one by one.
use Rattle.std.proofs.Common.{◌≡◌, ◌≤◌, ◌+◌, ℕ, Bool, true, false, List, [], ◌∷◌, ◌++◌, Option, Some, None, refl, sym, ap, ◌∙◌, append_assoc}
use Rattle.std.proofs.lemmas.Bool.{true≢false}
use Rattle.std.proofs.lemmas.List.{append-nil}
use Rattle.rule_book.specs.declared.transfers.Sale.{Sale}
use Rattle.manager_book.specs.Calls.{with_gameweek}
use Rattle.stored_records.specs.Sequels.{and_then_those, sales_from}
use Rattle.stored_records.proofs.Trading.{left_from, left_next, left_none}
use Rattle.season_restoring.specs.Restoring.{AddsSale}

-- those up to a number are added
abbrev pub IsAdding : ℕ → (ℕ → Option Sale) → ℕ → List (ℕ × Sale) → List (ℕ × Sale) → Type 0
IsAdding g told n old now = now ++ with_gameweek g (left_from told n) ≡ old ++ with_gameweek g (sales_from told 1000 1)

pub goes_on : (g : ℕ) (told : ℕ → Option Sale) (n : ℕ) (b : Bool) (old now new : List (ℕ × Sale)) → n ≤ 1000 → AddsSale g (told n) b now new → b ≡ true
    → IsAdding g told n old now → IsAdding g told (n + 1) old new
goes_on g told n b old now new few adds goes way = by (told n) refl adds
  where
    by : (o : Option Sale) → told n ≡ o → AddsSale g o b now new → IsAdding g told (n + 1) old new
    by None is added = absurd (true≢false (sym goes ∙ added.0))
    by (Some s) is added =
        let left : left_from told n ≡ s ∷ left_from told (n + 1) = left_next told n few ∙ ap (λ o. and_then_those o (left_from told (n + 1))) is in
        ap (λ l. l ++ with_gameweek g (left_from told (n + 1))) added.1
        ∙ append_assoc now ((g, s) ∷ []) (with_gameweek g (left_from told (n + 1)))
        ∙ sym (ap (λ l. now ++ with_gameweek g l) left)
        ∙ way

pub stops : (g : ℕ) (told : ℕ → Option Sale) (n : ℕ) (b : Bool) (old now new : List (ℕ × Sale)) → n ≤ 1000 → AddsSale g (told n) b now new → b ≡ false
    → IsAdding g told n old now → new ≡ old ++ with_gameweek g (sales_from told 1000 1)
stops g told n b old now new few adds ended way = by (told n) refl adds
  where
    by : (o : Option Sale) → told n ≡ o → AddsSale g o b now new → new ≡ old ++ with_gameweek g (sales_from told 1000 1)
    by (Some s) is added = absurd (true≢false (sym added.0 ∙ ended))
    by None is added =
        let left : left_from told n ≡ [] = left_next told n few ∙ ap (λ o. and_then_those o (left_from told (n + 1))) is in
        added.1 ∙ sym (append-nil now) ∙ sym (ap (λ l. now ++ with_gameweek g l) left) ∙ way

pub ends : (g : ℕ) (told : ℕ → Option Sale) (n : ℕ) (old now : List (ℕ × Sale)) → 1001 ≤ n → IsAdding g told n old now → now ≡ old ++ with_gameweek g (sales_from told 1000 1)
ends g told n old now end way = sym (append-nil now) ∙ sym (ap (λ l. now ++ with_gameweek g l) (left_none told n end)) ∙ way
