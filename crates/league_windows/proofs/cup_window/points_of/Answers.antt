use Rattle.std.proofs.Common.{◌≡◌, ◌≤◌, ◌∙◌, ℕ, FitsSigned, None, Some, ap, arith, nat_le, refl, rules, subst, sym, w32}
use Rattle.std.specs.Option.{option_map}
use Rattle.std.proofs.lemmas.Int.{to_z-of_z}
use Rattle.season_book.specs.LeagueViews.{net_in}
use Rattle.season_book.specs.CupWindow.{points_of_comer}
use Rattle.league_windows.proofs.LockedShown.{by_test, locked_is, missed, neither, open_is, passed}
use Rattle.league_windows.proofs.cup_window.points_of.Goals as goal

pub net_of-requires-clause-locked : goal.net_of-requires-clause-locked
net_of-requires-clause-locked g c =
    let locked = c.args.seen.now.facts.calendar.locked in
    let gw = c.args.gameweek in
    let is = locked_is gw c.from.result locked c.in_ok-locked.locked c.from.ensures c.requires.one c.in_ok-locked.ensures in
    subst (λ k. k ≤ locked) (sym is.1) (by_test gw locked is.0)

pub returns-in_err-locked-clause-value : goal.returns-in_err-locked-clause-value
returns-in_err-locked-clause-value g c = λ entries are.
    let facts = c.args.seen.now.facts in
    let gw = c.args.gameweek in
    let none : c.from_residual.result ≡ None = search rules in
    none ∙ missed (nat_le gw facts.calendar.locked) (option_map (λ e. net_in facts entries e gw) c.args.comer.now) None
    (open_is gw c.from.result facts.calendar.locked c.from.ensures c.requires.one c.in_err-locked.ensures)

pub returns-in-Some-clause-value : goal.returns-in-Some-clause-value
returns-in-Some-clause-value g c = λ entries are.
    let facts = c.args.seen.now.facts in
    let gw = c.args.gameweek in
    let is = locked_is gw c.from.result facts.calendar.locked c.in_ok-locked.locked c.from.ensures c.requires.one c.in_ok-locked.ensures in
    let fits : FitsSigned w32 c.net_of.result = search rules in
    ap Some (to_z-of_z w32 c.net_of.result fits ∙ c.net_of.ensures.value entries are ∙ ap (net_in facts entries c.in-Some.entry) is.1)
    ∙ passed (nat_le gw facts.calendar.locked) (option_map (λ e. net_in facts entries e gw) (Some c.in-Some.entry)) None is.0
    ∙ ap (points_of_comer facts entries gw) (sym c.in-Some.is)

pub returns-in-None-clause-value : goal.returns-in-None-clause-value
returns-in-None-clause-value g c = λ entries are.
    let facts = c.args.seen.now.facts in
    let gw = c.args.gameweek in
    neither (nat_le gw facts.calendar.locked) None refl ∙ ap (points_of_comer facts entries gw) (sym c.in-None.is)

pub returns-in-Some-clause-cost : goal.returns-in-Some-clause-cost
returns-in-Some-clause-cost g c =
    let locked = c.args.seen.now.facts.calendar.locked in
    let gw = c.args.gameweek in
    let is = locked_is gw c.from.result locked c.in_ok-locked.locked c.from.ensures c.requires.one c.in_ok-locked.ensures in
    let one = passed {X = ℕ} (nat_le gw locked) 1 0 is.0 in
    let read = c.net_of.ensures.cost in
    omega (arith, one, read)
