use Rattle.std.proofs.Common.{◌≡◌, arith}
use Rattle.std.proofs.lemmas.Grind.{common_steps}
use Rattle.std.proofs.lemmas.List.Elements.{All-push, All-same}
use Rattle.listener.specs.declared.memory.Visitor.{Visitor}
use Rattle.listener.specs.Forms.{fresh_sink}
use Rattle.listener.proofs.memory.MemoryDoors.new.Goals as goal

pub loop-bytes-preserved : goal.loop-bytes-preserved
loop-bytes-preserved c =
    let IsFresh = λ (v : Visitor). v.sink ≡ fresh_sink c.args.room in (
      grind (arith, common_steps),
      All-same IsFresh _ _ c.in_ok-push_back.ensures.items (All-push IsFresh _ _ c.loop-bytes.invariant.1 c.in_ok-sink.ensures.fresh),
    )
