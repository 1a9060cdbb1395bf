use Rattle.record_keepers.proofs.Filing.{commits_to}
use Rattle.record_keepers.proofs.at_path.PathKeeperKeeper.commit.Goals as goal

pub returns-clause-done : goal.returns-clause-done
returns-clause-done g c = (commits_to g.O.First.Keeper g.O.Again.Keeper c.args.self.now.stored c.committed.new.self.stored c.args.ops.now c.committed.result c.committed.ensures.file.3).done

pub returns-clause-alone : goal.returns-clause-alone
returns-clause-alone g c = (commits_to g.O.First.Keeper g.O.Again.Keeper c.args.self.now.stored c.committed.new.self.stored c.args.ops.now c.committed.result c.committed.ensures.file.3).alone

pub returns-clause-failed : goal.returns-clause-failed
returns-clause-failed g c = (commits_to g.O.First.Keeper g.O.Again.Keeper c.args.self.now.stored c.committed.new.self.stored c.args.ops.now c.committed.result c.committed.ensures.file.3).failed

pub returns-clause-kept : goal.returns-clause-kept
returns-clause-kept g c = (commits_to g.O.First.Keeper g.O.Again.Keeper c.args.self.now.stored c.committed.new.self.stored c.args.ops.now c.committed.result c.committed.ensures.file.3).kept

pub returns-clause-stops : goal.returns-clause-stops
returns-clause-stops g c = (commits_to g.O.First.Keeper g.O.Again.Keeper c.args.self.now.stored c.committed.new.self.stored c.args.ops.now c.committed.result c.committed.ensures.file.3).stops

pub returns-clause-told : goal.returns-clause-told
returns-clause-told g c = (commits_to g.O.First.Keeper g.O.Again.Keeper c.args.self.now.stored c.committed.new.self.stored c.args.ops.now c.committed.result c.committed.ensures.file.3).told

pub returns-clause-served : goal.returns-clause-served
returns-clause-served g c = (commits_to g.O.First.Keeper g.O.Again.Keeper c.args.self.now.stored c.committed.new.self.stored c.args.ops.now c.committed.result c.committed.ensures.file.3).served

pub returns-clause-serves : goal.returns-clause-serves
returns-clause-serves g c = (commits_to g.O.First.Keeper g.O.Again.Keeper c.args.self.now.stored c.committed.new.self.stored c.args.ops.now c.committed.result c.committed.ensures.file.3).serving
