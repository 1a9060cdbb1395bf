use Rattle.fixture_windows.specs.Appeared.{some_told}
use Rattle.fixture_windows.proofs.Greatest.{sorted_told}
use Rattle.fixture_windows.proofs.SomeFacts.{some_differ}
use Rattle.fixture_windows.proofs.told.greatest.Goals as goal

pub returns : goal.returns
returns c =
    let rows = c.args.rows.now in
    sorted_told c.in_ok-told.told.items c.sort_unstable.new.self.items (some_told c.args.side c.args.stat rows) c.in_ok-told.ensures c.sort_unstable.ensures.permutation c.sort_unstable.ensures.sorted
    (some_differ c.args.side c.args.stat rows c.requires.differ)
