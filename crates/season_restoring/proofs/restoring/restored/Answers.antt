use Rattle.std.proofs.Common.{◌∙◌, ◌≤◌, ap, length, subst, sym}
use Rattle.season_book.specs.Book.{Facts}
use Rattle.season_facts.specs.Kept.{AreFacts}
use Rattle.season_restoring.specs.Restored.{RowsFit, with_locked, with_rows}
use Rattle.season_restoring.proofs.FactsTold.{at_most_38, fits, has_gameweeks, in_order, kept_facts, locked_within, none_locked, split_within}
use Rattle.season_restoring.proofs.restoring.restored.Goals as goal

pub begin-requires-clause-has_gameweeks : goal.begin-requires-clause-has_gameweeks
begin-requires-clause-has_gameweeks c = has_gameweeks c.args.rows.now c.args.terms.now c.requires.terms

pub begin-requires-clause-at_most_38 : goal.begin-requires-clause-at_most_38
begin-requires-clause-at_most_38 c = at_most_38 c.args.rows.now c.args.terms.now c.requires.terms

pub begin-requires-clause-split_within : goal.begin-requires-clause-split_within
begin-requires-clause-split_within c = split_within c.args.rows.now c.args.terms.now c.requires.terms

pub begin-requires-clause-rise : goal.begin-requires-clause-rise
begin-requires-clause-rise c = in_order c.args.rows.now c.args.terms.now c.requires.terms

pub with_rows-requires : goal.with_rows-requires
with_rows-requires c =
    subst (λ (facts : Facts). RowsFit facts c.args.rows.now) (sym c.in_ok-begun.ensures)
    (fits c.args.rows.now c.args.terms.now c.requires.terms c.requires.rise c.requires.lawful)

pub into_season-requires-clause-none_locked : goal.into_season-requires-clause-none_locked
into_season-requires-clause-none_locked c =
    let is = c.in_ok-with_rows.ensures ∙ ap (λ (facts : Facts). with_rows facts c.args.rows.now) c.in_ok-begun.ensures in
    ap (λ (facts : Facts). facts.calendar.locked) is ∙ none_locked c.args.rows.now c.args.terms.now c.requires.terms c.requires.rise c.requires.lawful

pub into_season-requires-clause-locked_within : goal.into_season-requires-clause-locked_within
into_season-requires-clause-locked_within c =
    let is = c.in_ok-with_rows.ensures ∙ ap (λ (facts : Facts). with_rows facts c.args.rows.now) c.in_ok-begun.ensures in
    subst (λ (facts : Facts). c.args.terms.now.locked ≤ length facts.calendar.deadlines) (sym is)
    (locked_within c.args.rows.now c.args.terms.now c.requires.terms c.requires.rise c.requires.lawful)

pub into_season-requires-clause-facts : goal.into_season-requires-clause-facts
into_season-requires-clause-facts c =
    let is = c.in_ok-with_rows.ensures ∙ ap (λ (facts : Facts). with_rows facts c.args.rows.now) c.in_ok-begun.ensures in
    subst (λ (facts : Facts). AreFacts (with_locked facts c.args.terms.now.locked)) (sym is)
    (kept_facts c.args.rows.now c.args.terms.now c.requires.terms c.requires.rise c.requires.lawful)
