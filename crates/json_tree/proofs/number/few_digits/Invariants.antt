use Rattle.std.proofs.Common.{◌≡◌, take}
use Rattle.std.specs.Str.Parse.{AllDigits, digits_value}
use Rattle.json_tree.proofs.number.few_digits.Given as goal

-- the bytes so far are digits of this value
abbrev pub invariant-loop-byte : goal.invariant-loop-byte
invariant-loop-byte l = AllDigits 10 (take l.byte-index l.bytes) × (digits_value 10 (take l.byte-index l.bytes) ≡ l.value)
