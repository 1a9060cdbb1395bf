use Rattle.std.proofs.Common.{◌≤◌, ◌+◌, ap, arith, subst}
use Rattle.std.specs.Option.{option_map}
use Rattle.rule_book.specs.declared.cup.Bracket.{Bracket}
use Rattle.season_views.specs.Seen.{OfEachSeen, ShowsEach}
use Rattle.season_book.specs.CupWindow.{cup_data, cup_window}
use Rattle.season_views.specs.CupWindowReads.{cup_window_reads}
use Rattle.league_windows.proofs.NoNumber.{no_number}
use Rattle.league_windows.proofs.WindowShown.{hidden}
use Rattle.league_windows.proofs.cup_window.write_cup_window.Goals as goal

pub returns-in-Some-clause-value : goal.returns-in-Some-clause-value
returns-in-Some-clause-value g c =
    let seen = c.args.seen.now in
    subst (λ k. ShowsEach seen (λ entries. cup_window seen.facts entries seen.cups k) c.write_if_there.result c.args.out.now c.write_if_there.new.out) c.in-Some.ensures.value c.write_if_there.ensures.value

pub returns-in-Some-clause-cost : goal.returns-in-Some-clause-cost
returns-in-Some-clause-cost g c =
    let seen = c.args.seen.now in
    subst (λ k. OfEachSeen seen (λ entries. c.write_if_there.new.steps ≤ c.args.steps.now + cup_window_reads seen.facts entries seen.cups k)) c.in-Some.ensures.value c.write_if_there.ensures.cost

pub returns-in-None-clause-value : goal.returns-in-None-clause-value
returns-in-None-clause-value g c = λ entries are.
    let seen = c.args.seen.now in
    let n = c.args.number in
    hidden (cup_window seen.facts entries seen.cups n) c.args.out.now
    (ap (option_map (λ (bracket : Bracket). cup_data seen.facts entries bracket n)) (no_number seen.cups n c.new.result c.new.ensures.there c.in-None.is))

pub returns-in-None-clause-cost : goal.returns-in-None-clause-cost
returns-in-None-clause-cost g c = λ entries are. omega arith
