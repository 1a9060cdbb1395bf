use Rattle.std.proofs.Common.{◌≡◌, ◌+◌, ◌∙◌, ℕ, ◌-◌, ap, leb, length, take, drop, max}
use Rattle.std.specs.Prelude.{count_by}
use Rattle.std.specs.List.{take_while}
use Rattle.std.proofs.lemmas.List.{take_rest}
use Rattle.rule_book.specs.Calendar.{after_pass}
use Rattle.season_calendar.specs.contracts.season.Calendar.{the_view}
use Rattle.season_calendar.proofs.Lawful.{locked_is}
use Rattle.season_calendar.proofs.Locks.{passed_from, length-take_while}
use Rattle.season_calendar.proofs.season.Calendar.pass.Goals as goal

-- going on from the last lock counts as many deadlines as counting them all
pub returns-clause-passed : goal.returns-clause-passed
returns-clause-passed c =
    let ds = c.self.inside.deadlines.items in
    let locked = c.self.inside.locked in
    let p = λ (d : ℕ). leb d c.args.now in
    let slice = c.deref.result.now in
    let said : c.count_passed-passed.result ≡ length (take_while p (take (length slice - c.from.result) (drop c.from.result slice))) = c.count_passed-passed.ensures.value in
    let rest : take (length slice - c.from.result) (drop c.from.result slice) ≡ drop locked ds = take_rest slice c.from.result ∙ (ap (λ n. drop n slice) c.from.ensures ∙ ap (drop locked) c.deref.ensures.value) in
    let passed = said ∙ (ap (λ l. length (take_while p l)) rest ∙ length-take_while p (drop locked ds)) in
    let counted : locked + c.count_passed-passed.result ≡ max locked (count_by (λ d. leb d c.args.now) ds) = ap (λ n. locked + n) passed ∙ passed_from c.args.now ds locked c.self.invariant.lawful.deadlines_rise c.self.invariant.lawful.locked_within in
    locked_is (the_view c.self.inside) _ _ counted ∙ ap (λ v. after_pass v c.args.now) c.self.view_is
