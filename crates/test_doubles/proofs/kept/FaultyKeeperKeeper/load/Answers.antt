use Rattle.std.proofs.Common.{◌≡◌, ap, subst}
use Rattle.std.specs.Prelude.{⊤, IfOk, OnOk, OnErr}
use Rattle.fpl_base.specs.Keeping.{Map, map_of}
use Rattle.test_doubles.proofs.kept.FaultyKeeperKeeper.load.Goals as goal

pub returns-clause-gave : goal.returns-clause-gave
returns-clause-gave c = subst (λ rows. IfOk c.load.result (λ pairs. ⊤ → (m : Map) → m ≡ map_of rows → m ≡ map_of pairs.items)) (ap (λ k. k.records) c.self.view_is) c.load.ensures.gave

pub returns-clause-done : goal.returns-clause-done
returns-clause-done c = subst (λ rows. OnOk c.load.result (⊤ → (m : Map) → m ≡ map_of rows → m ≡ map_of c.load.new.self)) (ap (λ k. k.records) c.self.view_is) c.load.ensures.done

pub returns-clause-kept : goal.returns-clause-kept
returns-clause-kept c = subst (λ rows. OnErr c.load.result (⊤ → ⊤ → (m : Map) → m ≡ map_of rows → m ≡ map_of c.load.new.self)) (ap (λ k. k.records) c.self.view_is) c.load.ensures.kept
