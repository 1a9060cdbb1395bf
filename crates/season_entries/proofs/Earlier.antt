-- The rows of earlier gameweeks: what leaves them, and what they tell.
use Rattle.std.proofs.Common.{◌≡◌, ◌<◌, ◌≤◌, ◌+◌, ◌-◌, ◌∷◌, [], ℕ, zero, suc, Bool, true, false, cond, List, Option, Some, None, arith, refl, sym, ap, ◌∙◌, nat_eq, nat_lt, nat_le, not, ◌&&◌}
use Rattle.std.proofs.lemmas.Bool.Decides.{nat_tests}
use Rattle.fpl_base.specs.declared.kinds.Chip.{Chip}
use Rattle.fpl_base.specs.declared.kinds.Profile.{Profile}
use Rattle.rule_book.specs.FreeTransfers.{transfer_cost}
use Rattle.rule_book.specs.History.{is_free_hit}
use Rattle.rule_book.specs.HistoryTransfers.{free_from}
use Rattle.season_ledger.specs.declared.row.Row.{Row}
use Rattle.season_ledger.specs.declared.row.Standing.{Standing}
use Rattle.season_ledger.specs.Rows.{AllAbove, Rise, base_at, carried, chip_by, chip_in, chipped, cost_by, free_by, is_base, is_begun_by, made_in, or_else, put_chip, put_chip_on, put_row, row_at, standing_at, used_by}
use Rattle.manager_book.specs.Managers.{Managers}
use Rattle.season_entries.specs.Earlier.{EarlierRowsTell, RowsStayBefore, TellAlike, rows_before}

-- What leaves them.

not_before : (g : ℕ) → nat_lt g g ≡ false
not_before g = grind (arith, nat_tests)

here_is_not_before : (w g : ℕ) → nat_eq w g ≡ true → nat_lt w g ≡ false
here_is_not_before w g e = grind (arith, nat_tests)

-- a row of a gameweek itself is not before it
put_before : (rows : List Row) (g : ℕ) (s : Standing) → rows_before g (put_row rows g s) ≡ rows_before g rows
put_before [] g s = ap (λ b. cond b (record { gw = g; standing = s } ∷ []) []) (not_before g)
put_before (r ∷ rows) g s = by_test (nat_eq r.gw g) refl (put_before rows g s)
  where
    by_test : (b : Bool) → nat_eq r.gw g ≡ b → rows_before g (put_row rows g s) ≡ rows_before g rows
        → rows_before g (cond b (record { gw = g; standing = s } ∷ rows) (r ∷ put_row rows g s)) ≡ rows_before g (r ∷ rows)
    by_test true e more =
        ap (λ b. cond b (record { gw = g; standing = s } ∷ rows_before g rows) (rows_before g rows)) (not_before g)
        ∙ sym (ap (λ b. cond b (r ∷ rows_before g rows) (rows_before g rows)) (here_is_not_before r.gw g e))
    by_test false e more = ap (λ ws. cond (nat_lt r.gw g) (r ∷ ws) ws) more

pub before_row : (old new : List Row) (g : ℕ) (s : Standing) → new ≡ put_row old g s → rows_before g new ≡ rows_before g old
before_row old new g s e = ap (rows_before g) e ∙ put_before old g s

pub before_chip : (old new : List Row) (g : ℕ) (chip : Chip) → new ≡ put_chip old g chip → rows_before g new ≡ rows_before g old
before_chip old new g chip e = ap (rows_before g) e ∙ by_standing (standing_at old g)
  where
    by_standing : (o : Option Standing) → rows_before g (put_chip_on old g chip o) ≡ rows_before g old
    by_standing None = refl
    by_standing (Some s) = put_before old g (chipped chip s)

-- where nothing changed they stay
pub all_stay : (next : Option ℕ) (e : ℕ) (managers : Managers) → RowsStayBefore next e managers managers
all_stay None e managers = tt
all_stay (Some g) e managers = refl

-- What they tell.

is_not_lt : (a b : ℕ) → b ≤ a → nat_lt a b ≡ false
is_not_lt a b le = grind (arith, nat_tests)

later_than : (a n : ℕ) → nat_lt a n ≡ false → n ≤ a
later_than a n e = grind (arith, nat_tests)

sooner_than : (a n : ℕ) → nat_lt a n ≡ true → a < n
sooner_than a n e = grind (arith, nat_tests)

is_not_here : (a g : ℕ) → g < a → nat_eq a g ≡ false
is_not_here a g lt = grind (arith, nat_tests)

is_not_le : (a g : ℕ) → g < a → nat_le a g ≡ false
is_not_le a g lt = grind (arith, nat_tests)

or_none : {A : Type 0} (o : Option A) → or_else o None ≡ o
or_none None = refl
or_none (Some x) = refl

-- the row of an earlier gameweek
row_stays : (rows : List Row) (n g : ℕ) → g < n → row_at (rows_before n rows) g ≡ row_at rows g
row_stays [] n g lt = refl
row_stays (r ∷ rows) n g lt = by_test (nat_lt r.gw n) refl (row_stays rows n g lt)
  where
    by_test : (b : Bool) → nat_lt r.gw n ≡ b → row_at (rows_before n rows) g ≡ row_at rows g
        → row_at (cond b (r ∷ rows_before n rows) (rows_before n rows)) g ≡ row_at (r ∷ rows) g
    by_test true e more = ap (λ o. cond (nat_eq r.gw g) (Some r.standing) o) more
    by_test false e more = let past = later_than r.gw n e in
        more ∙ sym (ap (λ b. cond b (Some r.standing) (row_at rows g)) (is_not_here r.gw g (omega (arith, past, lt))))

-- the row whose team is carried over into it
base_stays : (rows : List Row) (n g : ℕ) → g < n → base_at (rows_before n rows) g ≡ base_at rows g
base_stays [] n g lt = refl
base_stays (r ∷ rows) n g lt = by_test (nat_lt r.gw n) refl (base_stays rows n g lt)
  where
    by_test : (b : Bool) → nat_lt r.gw n ≡ b → base_at (rows_before n rows) g ≡ base_at rows g
        → base_at (cond b (r ∷ rows_before n rows) (rows_before n rows)) g ≡ base_at (r ∷ rows) g
    by_test true e more = ap (λ o. or_else o (cond (is_base g r) (Some r) None)) more
    by_test false e more = let past = later_than r.gw n e in
        more ∙ sym (or_none (base_at rows g))
        ∙ sym (ap (λ b. or_else (base_at rows g) (cond (b && not (is_free_hit r.standing.team.chip)) (Some r) None)) (is_not_lt r.gw g (omega (arith, past, lt))))

standing_stays : (rows : List Row) (n g : ℕ) → g < n → standing_at (rows_before n rows) g ≡ standing_at rows g
standing_stays rows n g lt =
    ap (λ o. or_else o (carried (base_at (rows_before n rows) g))) (row_stays rows n g lt)
    ∙ ap (λ o. or_else (row_at rows g) (carried o)) (base_stays rows n g lt)

-- the free transfers of a gameweek are those of the gameweeks before it
free_agree : (p : Profile) (u v : ℕ → ℕ) (c d : ℕ → Chip) (s k n : ℕ) → ((w : ℕ) → w < n → u w ≡ v w) → ((w : ℕ) → w < n → c w ≡ d w) → s + k < n
    → free_from p u c s k ≡ free_from p v d s k
free_agree p u v c d s zero n e f lt = refl
free_agree p u v c d s (suc k) n e f lt =
    let i : free_from p u c s k ≡ free_from p v d s k = free_agree p u v c d s k n e f (omega arith) in
    let here : (s + 1) + k < n = omega arith in
    rw (i, e ((s + 1) + k) here, f ((s + 1) + k) here) refl

-- transfers cost the same where the rows from the first to theirs are the same
costs_agree : (p : Profile) (r : Row) (xs ys : List Row) (n g : ℕ) → r.gw < n → g < n → ((w : ℕ) → w < n → row_at (r ∷ xs) w ≡ row_at (r ∷ ys) w)
    → cost_by p (r ∷ xs) g ≡ cost_by p (r ∷ ys) g
costs_agree p r xs ys n g first lt same =
    let used : (w : ℕ) → w < n → used_by (r ∷ xs) w ≡ used_by (r ∷ ys) w = λ w l. ap made_in (same w l) in
    let chip : (w : ℕ) → w < n → chip_by (r ∷ xs) w ≡ chip_by (r ∷ ys) w = λ w l. ap chip_in (same w l) in
    let free : free_by p (r ∷ xs) g ≡ free_by p (r ∷ ys) g =
    free_agree p (used_by (r ∷ xs)) (used_by (r ∷ ys)) (chip_by (r ∷ xs)) (chip_by (r ∷ ys)) r.gw (g - (r.gw + 1)) n used chip (omega (arith, first, lt)) in
    ap (λ f. cond (nat_lt r.gw g) (transfer_cost f (used_by (r ∷ xs) g) (chip_by (r ∷ xs) g)) 0) free
    ∙ ap (λ u. cond (nat_lt r.gw g) (transfer_cost (free_by p (r ∷ ys) g) u (chip_by (r ∷ xs) g)) 0) (used g lt)
    ∙ ap (λ c. cond (nat_lt r.gw g) (transfer_cost (free_by p (r ∷ ys) g) (used_by (r ∷ ys) g) c) 0) (chip g lt)

-- where the first row is later, so are all
none_before : (rows : List Row) (n w : ℕ) → n ≤ w → AllAbove w rows → rows_before n rows ≡ []
none_before [] n w le above = refl
none_before (r ∷ rows) n w le above =
    ap (λ b. cond b (r ∷ rows_before n rows) (rows_before n rows)) (is_not_lt r.gw n (omega (arith, le, above.0))) ∙ none_before rows n w le above.1

-- rows without the later ones tell of an earlier gameweek what all tell
cut_tells : (p : Profile) (n g : ℕ) (rows : List Row) → Rise rows → g < n → TellAlike p g rows (rows_before n rows)
cut_tells p n g [] rise lt = record { standing = refl; begun = refl; cost = refl }
cut_tells p n g (r ∷ rows) rise lt = record {
  standing = standing_stays (r ∷ rows) n g lt;
  begun = begun_by_test (nat_lt r.gw n) refl;
  cost = cost_by_test (nat_lt r.gw n) refl (λ w l. row_stays (r ∷ rows) n w l);
}
  where
    begun_by_test : (b : Bool) → nat_lt r.gw n ≡ b → is_begun_by (cond b (r ∷ rows_before n rows) (rows_before n rows)) g ≡ is_begun_by (r ∷ rows) g
    begun_by_test true e = refl
    begun_by_test false e = let past = later_than r.gw n e in
        ap (λ ws. is_begun_by ws g) (none_before rows n r.gw past rise.0) ∙ sym (is_not_le r.gw g (omega (arith, past, lt)))

    cost_by_test : (b : Bool) → nat_lt r.gw n ≡ b
        → ((w : ℕ) → w < n → row_at (cond b (r ∷ rows_before n rows) (rows_before n rows)) w ≡ row_at (r ∷ rows) w)
        → cost_by p (cond b (r ∷ rows_before n rows) (rows_before n rows)) g ≡ cost_by p (r ∷ rows) g
    cost_by_test true e same = costs_agree p r (rows_before n rows) rows n g (sooner_than r.gw n e) lt same
    cost_by_test false e same = let past = later_than r.gw n e in
        ap (λ ws. cost_by p ws g) (none_before rows n r.gw past rise.0)
        ∙ sym (ap (λ b. cond b (transfer_cost (free_by p (r ∷ rows) g) (used_by (r ∷ rows) g) (chip_by (r ∷ rows) g)) 0) (is_not_lt r.gw g (omega (arith, past, lt))))

pub earlier_rows_tell : EarlierRowsTell
earlier_rows_tell p n g old new rise_old rise_new same lt =
    let before = cut_tells p n g old rise_old lt in
    let after = cut_tells p n g new rise_new lt in
    record {
      standing = sym after.standing ∙ ap (λ rows. standing_at rows g) same ∙ before.standing;
      begun = sym after.begun ∙ ap (λ rows. is_begun_by rows g) same ∙ before.begun;
      cost = sym after.cost ∙ ap (λ rows. cost_by p rows g) same ∙ before.cost;
    }
