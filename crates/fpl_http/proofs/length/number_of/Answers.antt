use Rattle.std.proofs.Common.{arith, ap, sym, ◌∙◌, ◌≡◌, ◌<◌, ◌^◌, ◌*◌, ◌+◌, ◌-◌, take, ℕ, get_or, lit<}
use Rattle.std.specs.Str.Parse.{digits_value}
use Rattle.fpl_http.proofs.FieldsLemmas.{number_step}
use Rattle.fpl_http.proofs.length.number_of.Goals as goal

small : 10 ^ 10 < 2 ^ 64
small = lit< tt

pub overflow_mul-number : goal.overflow_mul-number
overflow_mul-number c =
    let (more, below, low) = number_step c.args.bytes.now c.loop-byte.byte-index c.loop-byte-test.true c.requires.short c.requires.digits in
    let inv : c.loop-byte.number ≡ digits_value 10 (take c.loop-byte.byte-index c.args.bytes.now) = c.loop-byte.invariant in
    omega (arith, more, below, inv, small)

pub overflow_add-number : goal.overflow_add-number
overflow_add-number c =
    let (more, below, low) = number_step c.args.bytes.now c.loop-byte.byte-index c.loop-byte-test.true c.requires.short c.requires.digits in
    let inv : c.loop-byte.number ≡ digits_value 10 (take c.loop-byte.byte-index c.args.bytes.now) = c.loop-byte.invariant in
    omega (arith, more, below, inv, small)

pub loop-byte-preserved : goal.loop-byte-preserved
loop-byte-preserved c =
    let (more, below, low) = number_step c.args.bytes.now c.loop-byte.byte-index c.loop-byte-test.true c.requires.short c.requires.digits in
    let inv : c.loop-byte.number ≡ digits_value 10 (take c.loop-byte.byte-index c.args.bytes.now) = c.loop-byte.invariant in
    ap (λ (n : ℕ). n * 10 + (get_or c.args.bytes.now c.loop-byte.byte-index 0 - 48)) inv ∙ sym more
