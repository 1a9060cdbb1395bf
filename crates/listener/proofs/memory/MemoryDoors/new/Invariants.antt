use Rattle.std.proofs.Common.{◌≡◌, All, take, map}
use Rattle.listener.specs.Forms.{fresh_sink}
use Rattle.listener.proofs.memory.MemoryDoors.new.Given as goal

abbrev pub invariant-loop-bytes : goal.invariant-loop-bytes
invariant-loop-bytes l =
    (map (λ v. v.bytes.now) l.coming.items ≡ map (λ c. c.now) (take l.bytes-index l.connections))
    × All (λ v. v.sink ≡ fresh_sink l.room) l.coming.items
