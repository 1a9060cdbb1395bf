use Rattle.std.proofs.Common.{◌≤◌, ◌∙◌, ◌+◌, ◌*◌, ap, if◌then◌else◌, nat_le, subst}
use Rattle.json_members.specs.Tokens.{tokens_of}
use Rattle.season_book.specs.LeagueViews.{side_in}
use Rattle.season_views.proofs.Written.{retold}
use Rattle.season_book.specs.CupWindow.{comer_at, comers_to, points_of_comer, tie_data}
use Rattle.league_windows.proofs.TiesRead.{two_reads}
use Rattle.league_windows.proofs.cup_window.write_tie_at.Goals as goal

pub returns-clause-value : goal.returns-clause-value
returns-clause-value g c = λ entries are.
    let facts = c.args.seen.now.facts in
    let b = c.args.bracket.now in
    let before = c.args.at.0 in
    let tie = c.args.at.1 in
    let side = side_in facts entries in
    let locked = facts.calendar.locked in
    let shown = c.requires.shown entries are in
    let gw = ap (λ k. k + before) c.get.ensures.value in
    let one = c.comer_at-one.ensures side locked shown ∙ ap (λ k. comer_at (comers_to facts entries b before) (2 * k)) c.from-place.ensures in
    let other = c.comer_at-other.ensures side locked shown ∙ ap (λ k. comer_at (comers_to facts entries b before) (2 * k + 1)) c.from-place.ensures in
    let winner = c.comer_at-winner.ensures side locked shown ∙ ap (comer_at (comers_to facts entries b (before + 1))) c.from.ensures in
    let its = c.points_of-its_points.ensures.value entries are ∙ (λ i. points_of_comer facts entries (gw i) (one i)) in
    let theirs = c.points_of-other_points.ensures.value entries are ∙ (λ i. points_of_comer facts entries (gw i) (other i)) in
    retold (λ i. tokens_of (tie_data (one i) (its i) (other i) (theirs i) (winner i))) c.write_tie.ensures

pub returns-clause-cost : goal.returns-clause-cost
returns-clause-cost g c =
    let locked = c.args.seen.now.facts.calendar.locked in
    let before = c.args.at.0 in
    let read = two_reads (nat_le (c.get.result + before) locked) c.args.steps.now c.points_of-its_points.new.steps c.points_of-other_points.new.steps
    c.points_of-its_points.ensures.cost c.points_of-other_points.ensures.cost in
    subst (λ k. c.points_of-other_points.new.steps ≤ c.args.steps.now + (if nat_le k locked then 2 else 0)) (ap (λ k. k + before) c.get.ensures.value) read
