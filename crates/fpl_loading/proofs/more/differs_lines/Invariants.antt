use Rattle.std.proofs.Common.{◌≡◌, take, string_bytes}
use Rattle.fpl_loading.specs.More.{differs_text}
use Rattle.fpl_loading.proofs.more.differs_lines.Given as goal

abbrev pub invariant-loop-place : goal.invariant-loop-place
invariant-loop-place l = string_bytes l.text ≡ differs_text (take l.place-index l.places)
