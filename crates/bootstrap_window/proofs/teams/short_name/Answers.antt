use Rattle.std.proofs.Common.{◌≡◌, ◌∙◌, length, take, arith, ap, sym}
use Rattle.std.specs.Prelude.{encode_utf8_all}
use Rattle.std.specs.Str.{chars}
use Rattle.std.specs.String.{string_bytes}
use Rattle.std.proofs.lemmas.Iterator.{YieldsList-from_chars}
use Rattle.std.proofs.lemmas.Iterator.Consumers.{YieldsList-turn, YieldsList-end}
use Rattle.std.proofs.lemmas.List.{length_push}
use Rattle.bootstrap_window.proofs.Letters.{all_of, letter_more}
use Rattle.bootstrap_window.proofs.teams.short_name.Goals as goal

pub returns-then-left-eq0 : goal.returns-then-left-eq0
returns-then-left-eq0 c =
    let cs = chars c.args.name.now in
    let all : length c.loop-letter.yielded ≡ 3 = omega (arith, c.loop-letter.invariant.left, c.if-left-eq0.true) in
    c.loop-letter.invariant.bytes ∙ ap (λ n. encode_utf8_all (take n cs)) all

pub loop-letter-preserved : goal.loop-letter-preserved
loop-letter-preserved c =
    let cs = chars c.args.name.now in
    let t = YieldsList-turn (YieldsList-from_chars c.args.name.now c.utf8.name cc) c.loop-letter.yielded _ c.loop-letter.yielded_by _ _ c.in-Some.letter c.in-Some.is c.next.ensures.steps in
    let n = length_push c.loop-letter.yielded c.in-Some.letter in
    record {
      bytes = letter_more cs (string_bytes c.loop-letter.short) (string_bytes c.push.new.self) (length c.loop-letter.yielded) c.in-Some.letter t.0 t.1 c.loop-letter.invariant.bytes c.in_ok-push.ensures.bytes
          ∙ ap (λ m. encode_utf8_all (take m cs)) (sym n);
      left = omega (arith, n, c.loop-letter.invariant.left, c.if-left-eq0.false);
    }

pub returns : goal.returns
returns c =
    let cs = chars c.args.name.now in
    let t = YieldsList-end (YieldsList-from_chars c.args.name.now c.utf8.name cc) c.loop-letter.yielded _ c.loop-letter.yielded_by _ _ c.in-None.is c.next.ensures.steps in
    c.loop-letter.invariant.bytes ∙ ap encode_utf8_all (all_of cs (length c.loop-letter.yielded) 3 (sym t.1) (omega (arith, c.loop-letter.invariant.left)))
