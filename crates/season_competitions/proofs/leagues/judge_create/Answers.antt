use Rattle.std.proofs.Common.{◌≡◌, ◌∙◌, ℕ, true, ap, arith, refl, subst}
use Rattle.std.proofs.lemmas.Bool.Decides.{nat_tests}
use Rattle.rule_book.specs.Calendar.{CalendarFacts}
use Rattle.rule_book.specs.LeagueCalls.{create_refusal}
use Rattle.rule_book.specs.Refusals.{IsJudged}
use Rattle.season_book.specs.Book.{caller_number}
use Rattle.season_book.specs.Commands.{has_gameweek}
use Rattle.season_book.specs.declared.command.Command.TheVariants as command
use Rattle.season_competitions.proofs.LeagueFacts.{created}
use Rattle.season_competitions.proofs.leagues.judge_create.Goals as goal

pub returns : goal.returns
returns c = λ kind name code.
    let facts = c.args.season.now in
    let leagues = c.args.leagues.now in
    let e = caller_number c.args.caller.now in
    let start = c.args.start in
    let there : has_gameweek facts start ≡ true = grind (arith, nat_tests, c.get.ensures.value, c.gameweeks.ensures.value, c.calendar.ensures, c.if-get-gameweeks.false) in
    let locked : c.locked.result ≡ facts.calendar.locked = c.locked.ensures.value ∙ ap (λ (k : CalendarFacts). k.locked) c.calendar-2.ensures in
    let judged : IsJudged (create_refusal leagues e start facts.calendar.locked) c.judge_create.result =
    subst (λ (n : ℕ). IsJudged (create_refusal leagues n start facts.calendar.locked) c.judge_create.result) c.in-Some.ensures.1
    (subst (λ (k : ℕ). IsJudged (create_refusal leagues c.in-Some.entry start k) c.judge_create.result) locked c.judge_create.ensures) in
    created facts c.args.managers.now.managers leagues e (command.League kind name code start) start c.by_rule.result refl refl there c.in-Some.ensures.0
    (c.by_rule.ensures (create_refusal leagues e start facts.calendar.locked) judged)
