use Rattle.std.proofs.Common.{rules, ◌≡◌, Err, Ok, Some, None, refl, subst, sym}
use Rattle.record_keepers.specs.Filing.{CommitsIn}
use Rattle.record_keepers.proofs.Filing.{commits_of}
use Rattle.record_keepers.proofs.at_path.PathKeeper.committed.Goals as goal

pub returns-in-Ok-clause-file : goal.returns-in-Ok-clause-file
returns-in-Ok-clause-file g c =
    let same : c.args.self.now.stored ≡ Some c.in-Some.stored = search rules in
    (search rules, search rules, search rules, commits_of g.O.First.Keeper g.O.Again.Keeper c.args.self.now.stored (Some c.commit.new.self) c.in-Some.stored c.commit.new.self c.args.ops.now (Ok c.in-Ok.field-0) same c.in-Ok.ensures.commits refl)

pub returns-in-Err-clause-file : goal.returns-in-Err-clause-file
returns-in-Err-clause-file g c =
    let same : c.args.self.now.stored ≡ Some c.in-Some.stored = search rules in
    let none : c.counted-in-Err.new.self.stored ≡ None = search rules in
    let it = subst (λ w. CommitsIn g.O.First.Keeper g.O.Again.Keeper c.in-Some.stored c.commit.new.self c.args.ops.now (Err w)) (sym c.counted-in-Err.ensures.same) c.in-Err.ensures.commits in
    (search rules, search rules, search rules, commits_of g.O.First.Keeper g.O.Again.Keeper c.args.self.now.stored c.counted-in-Err.new.self.stored c.in-Some.stored c.commit.new.self c.args.ops.now (Err c.counted-in-Err.result) same it none)
