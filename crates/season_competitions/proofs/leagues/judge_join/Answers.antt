use Rattle.std.proofs.Common.{◌≡◌, ◌∙◌, ℕ, Some, ap, subst, sym}
use Rattle.std.specs.Prelude.{option_copied}
use Rattle.rule_book.specs.Entries.{entry_in}
use Rattle.rule_book.specs.LeagueCalls.{join_refusal}
use Rattle.rule_book.specs.Leagues.{LeagueFacts}
use Rattle.rule_book.specs.Refusals.{IsJudged}
use Rattle.season_book.specs.Book.{caller_number}
use Rattle.season_competitions.proofs.LeagueFacts.{joined}
use Rattle.season_competitions.proofs.leagues.judge_join.Goals as goal

pub returns : goal.returns
returns c =
    let leagues = c.args.leagues.now in
    let e = caller_number c.args.caller.now in
    let code = c.args.code.now in
    let league : LeagueFacts = c.in-Some-get._there.now in
    let at_id : entry_in leagues c.in-Some.id ≡ Some league = sym c.get.ensures ∙ ap option_copied c.in-Some-get.is in
    let at : entry_in leagues c.args.number ≡ Some league = subst (λ (n : ℕ). entry_in leagues n ≡ Some league) c.in-Some.ensures.value at_id in
    let judged : IsJudged (join_refusal leagues e league code) c.judge_join.result =
    subst (λ (n : ℕ). IsJudged (join_refusal leagues n league code) c.judge_join.result) c.in-Some-registered.ensures.1 (c.judge_join.ensures league at_id) in
    joined c.args.season.now c.args.managers.now.managers leagues e c.args.number code league c.by_rule.result at c.in-Some-registered.ensures.0
    (c.by_rule.ensures (join_refusal leagues e league code) judged)
