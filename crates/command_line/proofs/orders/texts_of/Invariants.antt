use Rattle.std.proofs.Common.{◌≡◌, take, map}
use Rattle.command_line.proofs.orders.texts_of.Given as goal

abbrev pub invariant-loop-word : goal.invariant-loop-word
invariant-loop-word l = map (λ w. w.now) l.line.items ≡ take l.word-index l.words
