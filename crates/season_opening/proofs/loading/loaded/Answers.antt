use Rattle.fpl_base.specs.Keeping.{map_of}
use Rattle.season_opening.proofs.LoadLemmas.{behind_err, behind_ok, made_loaded, pairs_loaded}
use Rattle.season_opening.proofs.loading.loaded.Goals as goal

pub returns-in-Ok-clause-made : goal.returns-in-Ok-clause-made
returns-in-Ok-clause-made g c =
    made_loaded (g.K.Keeper.tells c.load.new.self) (g.K.Keeper.holds c.args.keeper.now) (g.K.Keeper.holds c.load.new.self)
    (g.K.Keeper.passes c.load.new.self) (map_of c.in-Ok.rows.items)
    (pairs_loaded _ _ _ _ c.in-Ok.rows.items c.in-Ok.ensures.gave c.in-Ok.ensures.done c.in-Ok.ensures.alone)
    c.restored.result c.restored.ensures.made

pub returns-in-Ok-clause-damaged : goal.returns-in-Ok-clause-damaged
returns-in-Ok-clause-damaged g c key is = record {
  map = map_of c.in-Ok.rows.items;
  loaded = pairs_loaded _ _ _ _ c.in-Ok.rows.items c.in-Ok.ensures.gave c.in-Ok.ensures.done c.in-Ok.ensures.alone;
  judged = c.restored.ensures.damaged key is;
}

pub returns-in-Ok-clause-kept : goal.returns-in-Ok-clause-kept
returns-in-Ok-clause-kept g c = behind_err c.restored.result (λ tells serves. c.in-Ok.ensures.done tells)

pub returns-in-Ok-clause-serves : goal.returns-in-Ok-clause-serves
returns-in-Ok-clause-serves g c = behind_ok c.restored.result c.in-Ok.ensures.serves
