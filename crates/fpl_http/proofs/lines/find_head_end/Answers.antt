use Rattle.std.proofs.Common.{arith, ap, sym, ◌≡◌, ◌≤◌, true, false, length, take}
use Rattle.std.specs.Prelude.{nat_le, nat_lt}
use Rattle.std.proofs.lemmas.Bool.Decides.{nat_tests}
use Rattle.fpl_http.specs.Lines.{head_end, line_count}
use Rattle.std.proofs.lemmas.List.{length-take, take-take}
use Rattle.fpl_http.proofs.LinesLemmas.{end_none, end_some, head_le}
use Rattle.fpl_http.proofs.lines.find_head_end.Goals as goal

pub returns-then-bytes-ge-HEAD_BYTES-clause-value : goal.returns-then-bytes-ge-HEAD_BYTES-clause-value
unfolding head_end
returns-then-bytes-ge-HEAD_BYTES-clause-value c = let full : nat_le 8192 (length c.args.bytes.now) ≡ true = grind (arith, nat_tests) in end_none 8192 c.args.bytes.now c.min.result true c.min.ensures c.in-None.ensures.value full

pub returns-else-bytes-ge-HEAD_BYTES-clause-value : goal.returns-else-bytes-ge-HEAD_BYTES-clause-value
unfolding head_end
returns-else-bytes-ge-HEAD_BYTES-clause-value c = let full : nat_le 8192 (length c.args.bytes.now) ≡ false = grind (arith, nat_tests) in end_none 8192 c.args.bytes.now c.min.result false c.min.ensures c.in-None.ensures.value full

pub returns-then-count_lines-gt-HEAD_LINES-clause-value : goal.returns-then-count_lines-gt-HEAD_LINES-clause-value
unfolding head_end
returns-then-count_lines-gt-HEAD_LINES-clause-value c =
    let size = c.in-Some.size in
    let within : size ≤ c.min.result = omega (arith, c.in-Some.ensures.within, length-take c.min.result c.args.bytes.now) in
    let same : line_count (take size (take c.min.result c.args.bytes.now)) ≡ line_count (take size c.args.bytes.now) = ap line_count (take-take size c.min.result c.args.bytes.now within) in
    let lines : nat_lt 66 (line_count (take size c.args.bytes.now)) ≡ true = grind (arith, nat_tests, c.count_lines.ensures, same) in
    end_some 8192 c.args.bytes.now c.min.result size true c.min.ensures c.in-Some.ensures.value lines

pub returns-else-count_lines-gt-HEAD_LINES-clause-value : goal.returns-else-count_lines-gt-HEAD_LINES-clause-value
unfolding head_end
returns-else-count_lines-gt-HEAD_LINES-clause-value c =
    let size = c.in-Some.size in
    let within : size ≤ c.min.result = omega (arith, c.in-Some.ensures.within, length-take c.min.result c.args.bytes.now) in
    let same : line_count (take size (take c.min.result c.args.bytes.now)) ≡ line_count (take size c.args.bytes.now) = ap line_count (take-take size c.min.result c.args.bytes.now within) in
    let lines : nat_lt 66 (line_count (take size c.args.bytes.now)) ≡ false = grind (arith, nat_tests, c.count_lines.ensures, same) in
    end_some 8192 c.args.bytes.now c.min.result size false c.min.ensures c.in-Some.ensures.value lines

pub returns-else-count_lines-gt-HEAD_LINES-clause-within : goal.returns-else-count_lines-gt-HEAD_LINES-clause-within
returns-else-count_lines-gt-HEAD_LINES-clause-within c =
    let size = c.in-Some.size in
    let le = head_le (take c.min.result c.args.bytes.now) size (sym c.in-Some.ensures.value) in
    (le.0, omega (arith, le.1, length-take c.min.result c.args.bytes.now))
