use Rattle.match_events.proofs.ChangeLemmas.{same_else}
use Rattle.match_events.proofs.changes.changed.Goals as goal

pub returns-clause-changed : goal.returns-clause-changed
returns-clause-changed c =
    let one = c.in_ok-add_changed.ensures in
    let two = c.in_ok-add_changed-2.ensures in
    record {
      ascending = two.ascending;
      differ = two.differ;
      others = λ p none. same_else c.args.minutes c.args.told.now c.args.events.now c.add_changed.new.players.items c.add_changed-2.new.players.items p
          (one.others p) (two.more p) (two.others p) none;
    }
