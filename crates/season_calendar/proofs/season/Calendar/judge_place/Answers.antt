use Rattle.std.proofs.Common.{◌≡◌, ◌≤◌, ◌<◌, ◌-◌, ◌∙◌, length, get_or, sym, ap, arith}
use Rattle.std.proofs.lemmas.List.{get_or_default}
use Rattle.rule_book.specs.Calendar.{CalendarFacts, is_early}
use Rattle.season_calendar.proofs.Refused.{place_free}
use Rattle.season_calendar.proofs.season.Calendar.judge_place.Goals as goal

-- the deadline that was read is that of the gameweek
deadline_is : (c : goal.Else-is_early) → c.index-deadline.result.now ≡ get_or c.args.self.now.deadlines (c.in-Some.g - 1) 0
deadline_is c =
    let ds = c.self.inside.deadlines.items in
    let number : c.from.result ≡ c.in-Some.g - 1 = omega (arith, c.from.ensures, c.get.ensures.value) in
    let gameweek : c.in-Some.g ≤ length c.args.self.now.deadlines = rw c.in-Some.is at c.requires in
    let within : c.from.result < length ds = omega (arith, number, gameweek, c.get.ensures.range, ap (λ (v : CalendarFacts). length v.deadlines) c.self.view_is) in
    c.index-deadline.ensures ∙ (get_or_default ds c.from.result c.index-deadline.result.now 0 within ∙ (ap (λ n. get_or ds n 0) number ∙ ap (λ (v : CalendarFacts). get_or v.deadlines (c.in-Some.g - 1) 0) c.self.view_is))

pub returns-clause-judged : goal.returns-clause-judged
returns-clause-judged c =
    place_free c.args.self.now c.args.f c.in-Some.g c.args.kickoff c.args.to.now c.in-Some.is (omega (arith, c.count_others.ensures, c.if-count_others-ge-MOST_IN_A_GAMEWEEK.false)) (ap (λ d. is_early d c.args.kickoff) (sym (deadline_is c)) ∙ (sym c.is_early.ensures ∙ c.if-is_early.false))
