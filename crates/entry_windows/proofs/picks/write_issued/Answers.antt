use Rattle.std.proofs.Common.{◌≡◌, ◌+◌, ◌*◌, ◌&&◌, length, nat_le, arith, subst, sym, ap, ◌∙◌}
use Rattle.std.proofs.lemmas.Option.{cond_some}
use Rattle.rule_book.specs.Calendar.{is_locked}
use Rattle.season_views.specs.Seen.{WritesShown}
use Rattle.season_views.proofs.Numbered.{as_many}
use Rattle.season_views.proofs.Scores.{none_of}
use Rattle.season_book.specs.PicksWindow.{picks_if_begun, picks_window}
use Rattle.entry_windows.proofs.Due.{nothing_shown}
use Rattle.entry_windows.proofs.Shown.{no_picks_yet, picks_are}
use Rattle.entry_windows.proofs.picks.write_issued.Goals as goal

pub returns-in-Some-clause-value : goal.returns-in-Some-clause-value
returns-in-Some-clause-value g c = λ entries are row there.
    let facts = c.args.seen.now.facts in
    let e = c.args.entry in
    let gw = c.args.gameweek in
    let is = cond_some (nat_le 1 gw && is_locked facts.calendar gw) gw c.in-Some.locked (sym (sym c.in-Some.is ∙ c.locked_gameweek.ensures)) in
    subst (λ due. WritesShown due c.write_locked.result c.args.out.now c.write_locked.new.out)
    (ap (picks_if_begun facts entries (e, row)) (sym is.1) ∙ picks_are facts entries e gw row there is.0)
    (c.write_locked.ensures.value entries are row there)

pub returns-in-None-clause-value : goal.returns-in-None-clause-value
returns-in-None-clause-value g c = λ entries are row there.
    let facts = c.args.seen.now.facts in
    let e = c.args.entry in
    let gw = c.args.gameweek in
    nothing_shown (picks_window facts entries e gw) c.args.out.now c.args.out.now
    (no_picks_yet facts entries e gw (none_of (nat_le 1 gw && is_locked facts.calendar gw) gw (sym c.in-None.is ∙ c.locked_gameweek.ensures)))

pub returns-in-Some-clause-cost : goal.returns-in-Some-clause-cost
returns-in-Some-clause-cost g c = λ entries are.
    let seen = c.args.seen.now in
    let gw = c.args.gameweek in
    let is = cond_some (nat_le 1 gw && is_locked seen.facts.calendar gw) gw c.in-Some.locked (sym (sym c.in-Some.is ∙ c.locked_gameweek.ensures)) in
    let many = as_many seen.facts.players seen.managers.managers entries are in
    let reads : (length seen.managers.managers + 1) * (2 * c.in-Some.locked) ≡ (length entries + 1) * (2 * gw) = λ i. (many i + 1) * (2 * sym is.1 i) in
    omega (arith, c.write_locked.ensures.cost, reads)
