use Rattle.std.proofs.Common.{◌≡◌, ◌∙◌, ◌++◌, ◌∷◌, [], append-nil, ap, rules, sym, subst, to_z, of_z, w32, if◌then◌else◌}
use Rattle.std.proofs.lemmas.Option.{cond_some}
use Rattle.season_views.proofs.Scores.{none_of}
use Rattle.season_book.specs.EntryTotals.{gross_by, is_in}
use Rattle.season_book.specs.Events.{Scores}
use Rattle.bootstrap_window.specs.Told.{AreTold}
use Rattle.bootstrap_window.proofs.scores.with_entry.Goals as goal

pub returns-in-Some-clause-value : goal.returns-in-Some-clause-value
returns-in-Some-clause-value g c = λ entries are row at before told.
    let facts = c.args.seen.now.facts in
    let gw = c.args.gameweek in
    let e = c.args.entry in
    let is = cond_some (is_in row gw) (gross_by facts row.history gw) c.in-Some.gross (sym (c.gross_held.ensures.value entries are row at) ∙ c.in-Some.is) in
    let same : to_z w32 (of_z w32 c.in-Some.gross) ≡ c.in-Some.gross = search rules in
    let more : Scores = if is_in row gw then (e, gross_by facts row.history gw) ∷ [] else [] in
    let tail : (e, to_z w32 (of_z w32 c.in-Some.gross)) ∷ [] ≡ more =
    ap (λ z. (e, z) ∷ []) (same ∙ sym is.1) ∙ ap (λ b. if b then (e, gross_by facts row.history gw) ∷ [] else []) (sym is.0) in
    subst (λ (rows : Scores). AreTold (before ++ rows) c.with_score.result) tail (c.with_score.ensures.told before told)

pub returns-in-None-clause-value : goal.returns-in-None-clause-value
returns-in-None-clause-value g c = λ entries are row at before told.
    let facts = c.args.seen.now.facts in
    let gw = c.args.gameweek in
    let e = c.args.entry in
    let not = none_of (is_in row gw) (gross_by facts row.history gw) (sym c.in-None.is ∙ c.gross_held.ensures.value entries are row at) in
    let none : before ≡ before ++ (if is_in row gw then (e, gross_by facts row.history gw) ∷ [] else []) =
    sym (ap (λ b. before ++ (if b then (e, gross_by facts row.history gw) ∷ [] else [])) not ∙ append-nil before) in
    subst (λ (rows : Scores). AreTold rows c.args.scores) none told
