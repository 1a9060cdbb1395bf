use Rattle.std.proofs.Common.{◌≡◌, ◌+◌, ◌*◌, ◌∷◌, [], ◌++◌, ◌∙◌, ℕ, List, arith, ap, sym}
use Rattle.rule_book.specs.declared.line.Line.{Line}
use Rattle.season_generator.specs.Draws.{draws_at}
use Rattle.season_generator.specs.Made.{line_by, lines_at}
use Rattle.season_generator.proofs.MadeFacts.{lines_more, no_lines}
use Rattle.season_generator.proofs.sheets.lines_of.Goals as goal

pub loop-place-init : goal.loop-place-init
loop-place-init c =
    let same : c.args.draws.now.1 ≡ c.args.draws.now.1 + 8 * 0 = omega arith in
    record {
      lines = c.new-lines.ensures ∙ sym (no_lines c.args.draws.now.0 c.args.draws.now.1 c.args.fixture);
      moved = ap (λ (n : ℕ). (c.args.draws.now.0, n)) same;
    }

pub loop-place-preserved : goal.loop-place-preserved
loop-place-preserved c =
    let at = c.loop-place in
    let seed : ℕ = c.args.draws.now.0 in
    let from : ℕ = c.args.draws.now.1 in
    let f : ℕ = c.args.fixture in
    let line = c.line_of.ensures.line ∙ ap (λ (s : ℕ × ℕ). line_by f at.place (draws_at s.0 s.1 8)) at.invariant.moved in
    let next : (from + 8 * at.place) + 8 ≡ from + 8 * (at.place + 1) = omega arith in
    record {
      lines =
          c.in_ok-push.ensures.ok
          ∙ ap (λ (ls : List (ℕ × Line)). ls ++ c.line_of.result ∷ []) at.invariant.lines
          ∙ ap (λ (l : ℕ × Line). lines_at seed from f at.place ++ l ∷ []) line
          ∙ sym (lines_more seed from f at.place);
      moved = c.line_of.ensures.taken ∙ ap (λ (s : ℕ × ℕ). (s.0, s.1 + 8)) at.invariant.moved ∙ ap (λ (n : ℕ). (seed, n)) next;
    }
