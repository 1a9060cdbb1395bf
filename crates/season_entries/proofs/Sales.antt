-- The sales of a history, as deeds are added.
use Rattle.std.proofs.Common.{◌≡◌, ◌++◌, ◌∷◌, [], ℕ, suc, Bool, true, false, cond, ◌&&◌, List, length, map, nat_eq, refl, sym, ap, ◌∙◌}
use Rattle.std.proofs.lemmas.List.{append_assoc, append-nil}
use Rattle.rule_book.specs.declared.transfers.Sale.{Sale}
use Rattle.rule_book.specs.EntryRecords.{sales_in, sold_by, sold_in}
use Rattle.rule_book.specs.History.{Deed, Event, in_gameweek}
use Rattle.rule_book.specs.History.Deed.{First, Swap, Lineup, Play, Cancel}
use Rattle.rule_book.specs.HistoryTransfers.{is_swap, swaps_in}
use Rattle.rule_book.specs.PlayerFigures.{position_in}
use Rattle.season_ledger.specs.Stands.{RowsAlwaysTell}
use Rattle.manager_book.specs.Calls.{with_gameweek}
use Rattle.season_entries.specs.Entries.{AreSold}
use Rattle.season_entries.specs.EntryLaws.{RowsCountSales}
use Rattle.season_entries.proofs.Placing.{have_positions}

pub sales_in-append : (a b : List (ℕ × Sale)) (g : ℕ) → sales_in (a ++ b) g ≡ sales_in a g ++ sales_in b g
sales_in-append [] b g = refl
sales_in-append (s ∷ a) b g = step (nat_eq s.0 g) (sales_in-append a b g)
  where
    step : (t : Bool) → sales_in (a ++ b) g ≡ sales_in a g ++ sales_in b g → cond t (s.1 ∷ sales_in (a ++ b) g) (sales_in (a ++ b) g) ≡ cond t (s.1 ∷ sales_in a g) (sales_in a g) ++ sales_in b g
    step true i = ap (λ l. s.1 ∷ l) i
    step false i = i

pub sold_in-append : (h k : List Event) (g : ℕ) → sold_in (h ++ k) g ≡ sold_in h g ++ sold_in k g
sold_in-append [] k g = refl
sold_in-append (e ∷ h) k g = step (nat_eq e.gw g) (sold_in-append h k g)
  where
    step : (t : Bool) → sold_in (h ++ k) g ≡ sold_in h g ++ sold_in k g → cond t (sold_by e.deed ++ sold_in (h ++ k) g) (sold_in (h ++ k) g) ≡ cond t (sold_by e.deed ++ sold_in h g) (sold_in h g) ++ sold_in k g
    step true i = ap (λ l. sold_by e.deed ++ l) i ∙ sym (append_assoc (sold_by e.deed) (sold_in h g) (sold_in k g))
    step false i = i

-- transfers add their sales, in their gameweek
batch_sold : (g : ℕ) (sales : List Sale) → AreSold (with_gameweek g sales) (in_gameweek g (map Swap sales))
batch_sold g [] w = refl
batch_sold g (s ∷ sales) w = step (nat_eq g w) (batch_sold g sales w)
  where
    step : (t : Bool) → sales_in (with_gameweek g sales) w ≡ sold_in (in_gameweek g (map Swap sales)) w
        → cond t (s ∷ sales_in (with_gameweek g sales) w) (sales_in (with_gameweek g sales) w) ≡ cond t (s ∷ sold_in (in_gameweek g (map Swap sales)) w) (sold_in (in_gameweek g (map Swap sales)) w)
    step true i = ap (λ l. s ∷ l) i
    step false i = i

pub sold_on : (old new : List (ℕ × Sale)) (g : ℕ) (sales : List Sale) (h : List Event) → new ≡ old ++ with_gameweek g sales → AreSold old h → AreSold new (h ++ in_gameweek g (map Swap sales))
sold_on old new g sales h e are w =
    ap (λ (l : List (ℕ × Sale)). sales_in l w) e ∙ sales_in-append old (with_gameweek g sales) w
    ∙ ap (λ l. l ++ sales_in (with_gameweek g sales) w) (are w) ∙ ap (λ l. sold_in h w ++ l) (batch_sold g sales w)
    ∙ sym (sold_in-append h (in_gameweek g (map Swap sales)) w)

-- another deed adds none
none_sold : (g w : ℕ) (d : Deed) → sold_by d ≡ [] → sold_in (in_gameweek g (d ∷ [])) w ≡ []
none_sold g w d none = step (nat_eq g w)
  where
    step : (t : Bool) → cond t (sold_by d ++ []) [] ≡ []
    step true = append-nil (sold_by d) ∙ none
    step false = refl

pub unsold : (old new : List (ℕ × Sale)) (g : ℕ) (d : Deed) (h : List Event) → sold_by d ≡ [] → new ≡ old → AreSold old h → AreSold new (h ++ in_gameweek g (d ∷ []))
unsold old new g d h none e are w =
    ap (λ (l : List (ℕ × Sale)). sales_in l w) e ∙ are w ∙ sym (append-nil (sold_in h w))
    ∙ ap (λ l. sold_in h w ++ l) (sym (none_sold g w d none)) ∙ sym (sold_in-append h (in_gameweek g (d ∷ [])) w)

-- a history has as many sales as swaps
sold_count : (h : List Event) (g : ℕ) → swaps_in h g ≡ length (sold_in h g)
sold_count [] g = refl
sold_count (e ∷ h) g = by_deed e.deed (nat_eq e.gw g) (sold_count h g)
  where
    by_deed : (d : Deed) (t : Bool) → swaps_in h g ≡ length (sold_in h g) → cond (t && is_swap d) (suc (swaps_in h g)) (swaps_in h g) ≡ length (cond t (sold_by d ++ sold_in h g) (sold_in h g))
    by_deed (First squad captain vice) true i = i
    by_deed (Swap sale) true i = ap suc i
    by_deed (Lineup players captain vice) true i = i
    by_deed (Play chip) true i = i
    by_deed Cancel true i = i
    by_deed (First squad captain vice) false i = i
    by_deed (Swap sale) false i = i
    by_deed (Lineup players captain vice) false i = i
    by_deed (Play chip) false i = i
    by_deed Cancel false i = i

pub rows_count_sales : RowsAlwaysTell → RowsCountSales
rows_count_sales law players manager entry g are is =
    (law (position_in players) manager.season entry.history (is.history (position_in players) (have_positions players are))).used g
    ∙ sold_count entry.history g ∙ ap length (sym (is.sales g))
