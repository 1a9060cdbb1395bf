use Rattle.std.proofs.Common.{arith, ap, sym, ◌∙◌, ◌≡◌, ◌-◌, drop, length, None, Some}
use Rattle.std.proofs.lemmas.List.{take_all, length-drop, drop-drop}
use Rattle.fpl_http.specs.Lines.{empty_line}
use Rattle.fpl_http.specs.Lines.{strip}
use Rattle.fpl_http.proofs.LinesLemmas.{blank_some, blank_none}
use Rattle.fpl_http.proofs.lines.blank_lines_length.Goals as goal

pub loop-n-preserved : goal.loop-n-preserved
loop-n-preserved c =
    let all = take_all (length c.args.bytes.now - c.loop-n.at) (drop c.loop-n.at c.args.bytes.now) (omega (arith, length-drop c.loop-n.at c.args.bytes.now)) in
    let found : empty_line (drop c.loop-n.at c.args.bytes.now) ≡ Some c.in-Some.n = ap empty_line (sym all) ∙ sym c.in-Some.ensures.value in
    let within = c.in-Some.ensures.within in (
      omega (arith, c.loop-n.invariant.0, within.1, ap length all, length-drop c.loop-n.at c.args.bytes.now),
      ap strip (sym (drop-drop c.in-Some.n c.loop-n.at c.args.bytes.now)) ∙ blank_some (drop c.loop-n.at c.args.bytes.now) c.in-Some.n found ∙ c.loop-n.invariant.1,
    )

pub returns-clause-value : goal.returns-clause-value
returns-clause-value c =
    let all = take_all (length c.args.bytes.now - c.loop-n.at) (drop c.loop-n.at c.args.bytes.now) (omega (arith, length-drop c.loop-n.at c.args.bytes.now)) in
    let none : empty_line (drop c.loop-n.at c.args.bytes.now) ≡ None = ap empty_line (sym all) ∙ sym c.in_default.ensures.value in
    sym (blank_none (drop c.loop-n.at c.args.bytes.now) none) ∙ c.loop-n.invariant.1
