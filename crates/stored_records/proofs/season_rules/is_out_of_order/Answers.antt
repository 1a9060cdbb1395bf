use Rattle.std.proofs.Common.{◌≡◌, ◌≤◌, ◌-◌, ◌∙◌, ap, get_or, sym, arith}
use Rattle.std.specs.Prelude.{is_some}
use Rattle.std.proofs.lemmas.Bool.Decides.{nat_tests}
use Rattle.std.proofs.lemmas.List.{get_or_default}
use Rattle.rule_book.proofs.Deadlines.{first_late, none_late}
use Rattle.stored_records.proofs.season_rules.is_out_of_order.Goals as goal

pub returns-then-le : goal.returns-then-le
returns-then-le c =
    let ds = c.args.deadlines.now in
    let i = c.loop-i.i in
    let read : c.index-deadlines-i.result ≡ get_or ds i 0 = c.index-deadlines-i.is ∙ get_or_default ds i c.index-deadlines-i.result 0 (omega arith) in
    let before : c.index-deadlines-i-in-loop-i.result ≡ get_or ds (i - 1) 0 = c.index-deadlines-i-in-loop-i.is ∙ get_or_default ds (i - 1) c.index-deadlines-i-in-loop-i.result 0 (omega arith) in
    let late : c.index-deadlines-i.result ≤ c.index-deadlines-i-in-loop-i.result = grind (arith, nat_tests) in
    sym (ap is_some (first_late ds i (omega arith) (omega arith) c.loop-i.invariant (omega (arith, read, before, late))))

pub returns : goal.returns
returns c = sym (ap is_some (none_late c.args.deadlines.now (λ k lt. c.loop-i.invariant k (omega arith))))
