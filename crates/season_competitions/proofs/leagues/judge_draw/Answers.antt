use Rattle.std.proofs.Common.{◌≡◌, ◌∙◌, ℕ, Some, true, ap, subst, sym}
use Rattle.std.specs.Prelude.{option_copied}
use Rattle.std.specs.List.{list_all}
use Rattle.rule_book.specs.Calendar.{CalendarFacts}
use Rattle.rule_book.specs.Entries.{entry_in}
use Rattle.rule_book.specs.LeagueCalls.{draw_refusal}
use Rattle.rule_book.specs.Leagues.{LeagueFacts}
use Rattle.rule_book.specs.Refusals.{IsJudged}
use Rattle.season_entries.specs.Known.{is_issued_by}
use Rattle.season_competitions.proofs.LeagueFacts.{drawn}
use Rattle.season_competitions.proofs.leagues.judge_draw.Goals as goal

pub returns : goal.returns
returns c = λ e.
    let facts = c.args.season.now in
    let leagues = c.args.leagues.now in
    let order = c.args.order.now in
    let league : LeagueFacts = c.in-Some.league.now in
    let at : entry_in leagues c.args.number ≡ Some league = sym c.league_there.ensures ∙ ap option_copied c.in-Some.is in
    let issued : list_all (is_issued_by c.args.managers.now.managers) order ≡ true = sym c.are_issued.ensures ∙ c.if-not-are_issued.false in
    let locked : c.locked.result ≡ facts.calendar.locked = c.locked.ensures.value ∙ ap (λ (k : CalendarFacts). k.locked) c.calendar.ensures in
    let judged : IsJudged (draw_refusal league order facts.calendar.locked) c.judge_order.result =
    subst (λ (k : ℕ). IsJudged (draw_refusal league order k) c.judge_order.result) locked c.judge_order.ensures in
    drawn facts c.args.managers.now.managers leagues e c.args.number order league c.by_rule.result at issued
    (c.by_rule.ensures (draw_refusal league order facts.calendar.locked) judged)
