use Rattle.std.proofs.Common.{refl}
use Rattle.entry_windows.proofs.window.write_registered.Goals as goal

pub returns-clause-value : goal.returns-clause-value
returns-clause-value g c = λ entries are row there start.
    let wrote = c.in_ok-write_told.ensures.value entries are row there start in
    (refl, wrote.0, wrote.1)
