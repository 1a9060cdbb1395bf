use Rattle.std.proofs.Common.{◌≡◌, ◌+◌, ◌≤◌, length, false, All}
use Rattle.std.specs.Vec.Iter.{into_iter_items}
use Rattle.season_book.specs.Commands.{IsCommand}
use Rattle.request_handler.specs.Kept.{Leads}
use Rattle.fpl_loading.proofs.LoadingLemmas.{On}
use Rattle.fpl_loading.proofs.loading.loaded.Given as goal

-- so many commands were asked, each of them counts, and the others are left
abbrev pub invariant-loop-command : goal.invariant-loop-command
invariant-loop-command g l =
    record {
      on : Leads g.K.Keeper.tells g.K.Keeper.serves g.K.Keeper.holds g.K.Keeper.passes
          (record { host = l.fn.host; moments = g.C.Clock.left l.fn.clock; failed = g.K.Keeper.faults l.fn.keeper; keeper = l.fn.keeper })
          (record { host = l.host; moments = g.C.Clock.left l.clock; failed = g.K.Keeper.faults l.keeper; keeper = l.keeper })
          (On l.last (into_iter_items l.initial.command-iterator) (into_iter_items l.command-iterator) l.number l.place l.loaded l.there);
      fresh : l.host.stale ≡ false;
      lawful : All IsCommand (into_iter_items l.command-iterator);
      asked : l.number + length (into_iter_items l.command-iterator) ≡ length (into_iter_items l.initial.command-iterator);
      placed : l.place.row ≤ l.number;
      counts : l.loaded + l.there ≤ l.number;
      unwritten : l.output ≡ l.fn.output;
      later : g.K.Keeper.faults l.fn.keeper ≤ g.K.Keeper.faults l.keeper;
    }
