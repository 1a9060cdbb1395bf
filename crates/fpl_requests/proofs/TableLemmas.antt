-- One more row of a table.
use Rattle.std.proofs.Common.{◌≡◌, ◌∙◌, ap, sym, refl, ℕ, List, ◌∷◌, ◌+◌, ◌<◌, length, map, drop, get_or, Bool, true, false, Bor}
use Rattle.std.proofs.lemmas.List.{at_drop_more}
use Rattle.fpl_requests.specs.declared.route.Asks.{Asks}
use Rattle.fpl_requests.specs.declared.route.Callers.{Callers}
use Rattle.fpl_requests.specs.declared.route.Method.{Method}
use Rattle.fpl_requests.specs.Tables.{Table, all_added, row_of, with_row}
use Rattle.fpl_requests.specs.Targets.{Row, is_method, rows_at}

-- a row as the code has it
abbrev pub CodeRow : Type 0
CodeRow = Method × Bor (List ℕ) × Callers × Asks

first_added : (method : Method) (row : Row) (rest : List Row) (rows : Table) (v : Bool) → is_method row.0 method ≡ v
    → all_added rows (rows_at method (row ∷ rest)) ≡ all_added (with_row method row rows) (rows_at method rest)
unfolding all_added
first_added method row rest rows true e = rw e refl
first_added method row rest rows false e = rw e refl

pub added_more : (method : Method) (rows : List CodeRow) (i : ℕ) (d : CodeRow) (old new whole : Table) → i < length rows
    → new ≡ with_row method (row_of (get_or rows i d)) old
    → all_added old (rows_at method (map row_of (drop i rows))) ≡ whole → all_added new (rows_at method (map row_of (drop (i + 1) rows))) ≡ whole
added_more method rows i d old new whole lt h inv =
    let row = get_or rows i d in
    ap (λ t. all_added t (rows_at method (map row_of (drop (i + 1) rows)))) h
    ∙ sym (first_added method (row_of row) (map row_of (drop (i + 1) rows)) old (is_method (row_of row).0 method) refl)
    ∙ sym (at_drop_more (λ ws. all_added old (rows_at method (map row_of ws))) rows i d lt)
    ∙ inv
