use Rattle.std.proofs.Common.{◌≡◌, ◌≤◌, ◌<◌, ◌+◌, ◌*◌, ◌-◌, ◌∙◌, ap, sym, subst, arith, get_or, length, length-take, take, take_all}
use Rattle.std.proofs.lemmas.Int.Digits.{digits_value_more}
use Rattle.std.proofs.lemmas.List.{take_more}
use Rattle.std.specs.Char.{digit_value}
use Rattle.std.specs.Str.Parse.{AllDigits, digits_value}
use Rattle.json_tree.proofs.NumberLemmas.{AllDigits-push, digit_value-low, number_of-few, short_value}
use Rattle.json_tree.proofs.number.few_digits.Goals as goal

pub overflow_mul-value : goal.overflow_mul-value
overflow_mul-value c =
    let bs = c.args.bytes.now in
    let i = c.loop-byte.byte-index in
    omega (arith, short_value (take i bs) c.loop-byte.invariant.0 (omega (arith, length-take i bs)), c.loop-byte.invariant.1)

pub overflow_add-value : goal.overflow_add-value
overflow_add-value c =
    let bs = c.args.bytes.now in
    let i = c.loop-byte.byte-index in
    let digit : c.from.result ≤ 9 = grind arith in
    omega (arith, short_value (take i bs) c.loop-byte.invariant.0 (omega (arith, length-take i bs)), c.loop-byte.invariant.1)

pub returns : goal.returns
returns c =
    let bs = c.args.bytes.now in
    let all : take c.loop-byte.byte-index bs ≡ bs = take_all c.loop-byte.byte-index bs (omega arith) in
    let some : 0 < length bs = grind arith in
    number_of-few bs c.loop-byte.value ((some, subst (AllDigits 10) all c.loop-byte.invariant.0), ap (digits_value 10) (sym all) ∙ c.loop-byte.invariant.1) (omega arith)

pub loop-byte-preserved : goal.loop-byte-preserved
loop-byte-preserved c =
    let bs = c.args.bytes.now in
    let i = c.loop-byte.byte-index in
    let d = get_or bs i 0 in
    let lt : i < length bs = omega arith in
    let bounds : (48 ≤ d) × (d ≤ 57) = grind arith in
    let from : d - 48 ≡ c.from.result = grind (arith, bounds) in
    let digit : digit_value d ≡ c.from.result = digit_value-low d bounds.0 bounds.1 ∙ from in (
      subst (AllDigits 10) (sym (take_more bs i 0 lt)) (AllDigits-push (take i bs) d c.loop-byte.invariant.0 bounds.0 bounds.1),
      digits_value_more 10 bs i lt ∙ ap (λ n. n * 10 + digit_value d) c.loop-byte.invariant.1 ∙ ap (λ n. c.loop-byte.value * 10 + n) digit,
    )
