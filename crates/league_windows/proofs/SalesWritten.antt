-- Transfers of gameweeks that are written from the latest on.
use Rattle.std.proofs.Common.{◌≡◌, ◌∙◌, ◌<◌, ◌+◌, ◌-◌, ◌==◌, ℕ, zero, suc, Bool, true, false, List, [], ◌∷◌, ◌++◌, drop, get_or, length, map, reverse, Ok, if◌then◌else◌, arith, sym, ap, append-nil}
use Rattle.std.specs.List.{flat_map, range_with_len}
use Rattle.std.proofs.lemmas.List.{at_drop_more, reverse-append}
use Rattle.json.specs.Token.{Token}
use Rattle.json.specs.Written.{Written}
use Rattle.json_members.specs.Tokens.{Appends, tokens_of}
use Rattle.rule_book.specs.declared.transfers.Sale.{Sale}
use Rattle.rule_book.specs.EntryRecords.{sales_in}
use Rattle.rule_book.specs.Totals.{gameweeks}
use Rattle.league_windows.specs.RowTokens.{row_tokens}
use Rattle.season_book.specs.TransfersWindow.{latest_of, transfer_row}
use Rattle.league_windows.proofs.RowsWritten.{one_row, rows_more}

-- the first of a list comes last
last_first : {X : Type 0} (x : X) (xs : List X) → reverse (x ∷ xs) ≡ reverse xs ++ x ∷ []
last_first x xs = reverse-append (x ∷ []) xs

-- the transfers of a gameweek among some, the latest first
abbrev pub backwards : ℕ → List (ℕ × Sale) → List (ℕ × Sale)
backwards g sales = reverse (map (λ sale. (g, sale)) (sales_in sales g))

-- what is written of those behind a place, and then of the one there
pub one_before : {u : Unit {0}} {a b : Written} (base : List Token) (e g : ℕ) (sales : List (ℕ × Sale)) (i j : ℕ) (sold : ℕ × Sale)
    → i < length sales → j ≡ i + 1 → sold ≡ get_or sales i sold
    → Appends (Ok u) a b (if sold.0 == g then tokens_of (transfer_row e (g, sold.1)) else [])
    → a.tokens ≡ base ++ row_tokens (transfer_row e) (backwards g (drop j sales))
    → b.tokens ≡ base ++ row_tokens (transfer_row e) (backwards g (drop i sales))
one_before {u = u} {a = a} {b = b} base e g sales i j sold below next is wrote so =
    by_test (sold.0 == g) wrote
    ∙ ap (λ s. base ++ row_tokens (transfer_row e) (reverse (map (λ sale. (g, sale)) (if s.0 == g then s.1 ∷ sales_in (drop (i + 1) sales) g else sales_in (drop (i + 1) sales) g)))) is
    ∙ ap (λ s. base ++ row_tokens (transfer_row e) (reverse (map (λ sale. (g, sale)) s))) (sym (at_drop_more (λ s. sales_in s g) sales i sold below))
  where
    left : List Sale
    left = sales_in (drop (i + 1) sales) g

    started : a.tokens ≡ base ++ row_tokens (transfer_row e) (reverse (map (λ sale. (g, sale)) left))
    started = so ∙ ap (λ k. base ++ row_tokens (transfer_row e) (backwards g (drop k sales))) next

    by_test : (t : Bool) → Appends (Ok u) a b (if t then tokens_of (transfer_row e (g, sold.1)) else [])
        → b.tokens ≡ base ++ row_tokens (transfer_row e) (reverse (map (λ sale. (g, sale)) (if t then sold.1 ∷ left else left)))
    by_test true wrote =
        rows_more (transfer_row e) base (reverse (map (λ sale. (g, sale)) left)) ((g, sold.1) ∷ []) (one_row (transfer_row e) (g, sold.1) wrote) started
        ∙ ap (λ s. base ++ row_tokens (transfer_row e) s) (sym (last_first (g, sold.1) (map (λ sale. (g, sale)) left)))
    by_test false wrote = wrote.tokens ∙ append-nil a.tokens ∙ started

-- the transfers of the gameweek before come behind
one_gameweek_before : (sold : ℕ → List Sale) (g : ℕ) (gws : List ℕ) → latest_of sold (g ∷ gws) ≡ latest_of sold gws ++ reverse (map (λ sale. (g, sale)) (sold g))
one_gameweek_before sold g gws =
    reverse-append (map (λ sale. (g, sale)) (sold g)) (flat_map (λ w. map (λ sale. (w, sale)) (sold w)) gws)

pub latest_more : (sold : ℕ → List Sale) (to k : ℕ) → k < to + 1
    → latest_of sold (range_with_len ((to + 1) - k) k) ++ reverse (map (λ sale. (to - k, sale)) (sold (to - k))) ≡ latest_of sold (range_with_len ((to + 1) - (k + 1)) (k + 1))
latest_more sold to k below =
    let first : to - k ≡ (to + 1) - (k + 1) = omega arith in
    let long : suc k ≡ k + 1 = omega arith in
    let after : (to + 1) - k ≡ (to - k) + 1 = omega (arith, below) in
    sym (one_gameweek_before sold (to - k) (range_with_len ((to + 1) - k) k))
    ∙ ap (λ n. latest_of sold ((to - k) ∷ range_with_len n k)) after
    ∙ (λ i. latest_of sold (range_with_len (first i) (long i)))

-- the last of some gameweeks, as many as there are, are all of them
pub all_gameweeks : (from to k : ℕ) → k ≡ (to + 1) - from → range_with_len ((to + 1) - k) k ≡ gameweeks from to
all_gameweeks from to zero at = ap (range_with_len from) at
all_gameweeks from to (suc k) at =
    let same : (to + 1) - suc k ≡ from = omega (arith, at) in λ i. range_with_len (same i) (at i)
