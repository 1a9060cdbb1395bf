use Rattle.std.proofs.Common.{◌≡◌, ◌∙◌, false, true, Some, sym, ap, below_more, arith}
use Rattle.std.specs.Prelude.{max}
use Rattle.rule_book.specs.MatchFacts.{players_in}
use Rattle.rule_book.specs.Repeats.{is_repeat}
use Rattle.match_facts.proofs.Repeats.{repeat_found, no_repeat, is_repeat-players, player_at, length-players, below_next}
use Rattle.match_facts.proofs.judge.first_twice.Goals as goal

pub returns-then-is_among : goal.returns-then-is_among
returns-then-is_among c =
    let player = player_at c.args.lines.now c.loop-place.place c.index-lines-place.result c.loop-place-test.true c.index-lines-place.is in
    let here : is_repeat (players_in c.args.lines.now) c.loop-place.place ≡ true =
    is_repeat-players c.args.lines.now c.loop-place.place c.index-lines-place.result.0 player ∙ sym c.is_among.ensures ∙ c.if-is_among.true in
    ap Some player ∙ sym (repeat_found (players_in c.args.lines.now) c.loop-place.place (omega (arith, c.loop-place-test.true, length-players c.args.lines.now)) here c.loop-place.invariant.once)

pub loop-place-preserved : goal.loop-place-preserved
loop-place-preserved c =
    let player = player_at c.args.lines.now c.loop-place.place c.index-lines-place.result c.loop-place-test.true c.index-lines-place.is in
    let here : is_repeat (players_in c.args.lines.now) c.loop-place.place ≡ false =
    is_repeat-players c.args.lines.now c.loop-place.place c.index-lines-place.result.0 player ∙ sym c.is_among.ensures ∙ c.if-is_among.false in
    record {
      once = below_more (λ k. is_repeat (players_in c.args.lines.now) k ≡ false) c.loop-place.place c.loop-place.invariant.once here;
      below = below_next c.args.lines.now c.loop-place.place c.loop-place.greatest c.max-greatest.result c.index-lines-place.result c.loop-place-test.true c.index-lines-place.is (c.max-greatest.ensures ∙ ap (λ n. max c.loop-place.greatest n) c.get.ensures.value) c.loop-place.invariant.below;
    }

pub returns : goal.returns
returns c = sym (no_repeat (players_in c.args.lines.now) (λ k lt. c.loop-place.invariant.once k (omega (arith, lt, c.loop-place-test.false, length-players c.args.lines.now))))
