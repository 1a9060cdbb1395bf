use Rattle.std.proofs.Common.{rules, subst, sym, ◌∙◌, map-id}
use Rattle.std.proofs.lemmas.Iterator.Adapters.{YieldsList-from_vec}
use Rattle.std.proofs.lemmas.Iterator.Consumers.{YieldsList-end}
use Rattle.season_keeper.specs.Rows.{ShowEach}
use Rattle.season_keeper.proofs.Pairing.{show_more}
use Rattle.season_keeper.proofs.pairs.shown_by.Goals as goal

pub rows-preserved : goal.rows-preserved
rows-preserved c = show_more c.rows.yielded c.in-Some.row c.rows.all.items c.push.new.self.items c.in-Some-2.one c.in_ok-push.ensures.items c.rows.invariant (search rules)

pub returns : goal.returns
returns c =
    let end = YieldsList-end (YieldsList-from_vec c.args.rows.items (search rules) (search rules)) c.rows.yielded _ c.rows.yielded_by _ c.next.new.self c.in-None.is c.next.ensures.steps in
    subst (λ rows. ShowEach rows c.rows.all.items) (sym (map-id c.rows.yielded) ∙ end.0) c.rows.invariant
