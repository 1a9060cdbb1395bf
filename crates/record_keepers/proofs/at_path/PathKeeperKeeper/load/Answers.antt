use Rattle.record_keepers.proofs.Filing.{file_loads, file_rises}
use Rattle.record_keepers.proofs.at_path.PathKeeperKeeper.load.Goals as goal

pub returns-clause-rise : goal.returns-clause-rise
returns-clause-rise g c = file_rises g.O.First.Keeper g.O.Again.Keeper g.O.Opening.opens g.O.Opening.faults c.args.self.now c.loaded.new.self c.loaded.result c.loaded.ensures.file

pub returns-clause-gave : goal.returns-clause-gave
returns-clause-gave g c = (file_loads g.O.First.Keeper g.O.Again.Keeper g.O.Opening.opens g.O.Opening.faults c.args.self.now c.loaded.new.self c.loaded.result c.loaded.ensures.file).gave

pub returns-clause-alone : goal.returns-clause-alone
returns-clause-alone g c = (file_loads g.O.First.Keeper g.O.Again.Keeper g.O.Opening.opens g.O.Opening.faults c.args.self.now c.loaded.new.self c.loaded.result c.loaded.ensures.file).alone

pub returns-clause-done : goal.returns-clause-done
returns-clause-done g c = (file_loads g.O.First.Keeper g.O.Again.Keeper g.O.Opening.opens g.O.Opening.faults c.args.self.now c.loaded.new.self c.loaded.result c.loaded.ensures.file).done

pub returns-clause-kept : goal.returns-clause-kept
returns-clause-kept g c = (file_loads g.O.First.Keeper g.O.Again.Keeper g.O.Opening.opens g.O.Opening.faults c.args.self.now c.loaded.new.self c.loaded.result c.loaded.ensures.file).kept

pub returns-clause-stops : goal.returns-clause-stops
returns-clause-stops g c = (file_loads g.O.First.Keeper g.O.Again.Keeper g.O.Opening.opens g.O.Opening.faults c.args.self.now c.loaded.new.self c.loaded.result c.loaded.ensures.file).stops

pub returns-clause-told : goal.returns-clause-told
returns-clause-told g c = (file_loads g.O.First.Keeper g.O.Again.Keeper g.O.Opening.opens g.O.Opening.faults c.args.self.now c.loaded.new.self c.loaded.result c.loaded.ensures.file).told

pub returns-clause-served : goal.returns-clause-served
returns-clause-served g c = (file_loads g.O.First.Keeper g.O.Again.Keeper g.O.Opening.opens g.O.Opening.faults c.args.self.now c.loaded.new.self c.loaded.result c.loaded.ensures.file).served

pub returns-clause-serves : goal.returns-clause-serves
returns-clause-serves g c = (file_loads g.O.First.Keeper g.O.Again.Keeper g.O.Opening.opens g.O.Opening.faults c.args.self.now c.loaded.new.self c.loaded.result c.loaded.ensures.file).serving
