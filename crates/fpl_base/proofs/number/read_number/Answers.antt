use Rattle.std.proofs.Common.{arith, ◌≡◌, sym, ◌∙◌, refl}
use Rattle.std.proofs.lemmas.Bool.{false≢true}
use Rattle.fpl_base.proofs.NumberLemmas.{decimal-front, IsUtf8-decimal, parse_again, parsed_is_decimal, ok_same}
use Rattle.fpl_base.proofs.number.read_number.Goals as goal

pub returns-then-not-has_plain_front : goal.returns-then-not-has_plain_front
returns-then-not-has_plain_front c = λ n le e. false≢true (c.if-not-has_plain_front.ensures.1 (rw e (decimal-front n (omega arith))))

pub returns-in_default : goal.returns-in_default
returns-in_default c = λ n le e. c.in_default.ensures.cases.0 (rw e (IsUtf8-decimal n (omega arith)))

pub returns-in_default-parse : goal.returns-in_default-parse
returns-in_default-parse c = λ n le e.
    c.in_default-parse.not-Ok n (parse_again n c.in-Ok.text.now c.parse.result (omega arith) (c.in-Ok.ensures.cases.0 ∙ e) c.parse.ensures.value.0)

pub returns-then-value-greatest : goal.returns-then-value-greatest
returns-then-value-greatest c = λ n le e.
    let again = parse_again n c.in-Ok.text.now c.parse.result (omega arith) (c.in-Ok.ensures.cases.0 ∙ e) c.parse.ensures.value.0 in
    let same : c.in-Ok-parse.value ≡ n = ok_same c.parse.result c.in-Ok-parse.is again in
    omega (arith, c.if-value-greatest.true)

pub returns : goal.returns
returns c =
    let text = c.in-Ok.ensures.cases.0 in
    let front = c.if-not-has_plain_front.ensures.0 refl in
    (omega arith, sym text ∙ parsed_is_decimal c.in-Ok-parse.value c.in-Ok.text.now c.parse.result c.in-Ok-parse.is c.parse.ensures.value.0 (rw text front.0) (rw text front.1))
