use Rattle.std.proofs.Common.{◌≡◌, ◌+◌, length, take}
use Rattle.std.specs.Prelude.{encode_utf8_all}
use Rattle.std.specs.Str.{chars}
use Rattle.std.specs.String.{string_bytes}
use Rattle.bootstrap_window.proofs.teams.short_name.Given as goal

-- the characters so far, and how many may follow
abbrev pub invariant-loop-letter : goal.invariant-loop-letter
invariant-loop-letter l = record {
  bytes : string_bytes l.short ≡ encode_utf8_all (take (length l.yielded) (chars l.name));
  left : l.left + length l.yielded ≡ 3;
}
