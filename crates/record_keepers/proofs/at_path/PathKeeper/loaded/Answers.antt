use Rattle.std.proofs.Common.{rules, ◌≡◌, Err, None, inl, refl, subst, sym}
use Rattle.record_keepers.specs.Filing.{IsOpenFor, LoadsIn}
use Rattle.record_keepers.proofs.at_path.PathKeeper.loaded.Goals as goal

pub returns-in-Ok-load-clause-file : goal.returns-in-Ok-load-clause-file
returns-in-Ok-load-clause-file g c =
    let same : c.opened.new.self.opening ≡ c.self.inside.opening = search rules in
    let is_open = subst (λ o. IsOpenFor g.O.Opening.opens g.O.Opening.faults c.args.self.now.path c.args.self.now.stored c.args.self.now.opening o c.in-Ok.stored) same c.in-Ok.ensures.open in
    (search rules, search rules, inl (c.in-Ok.stored, c.load.new.self, is_open, c.in-Ok-load.ensures.loads, refl))

pub returns-in-Err-load-clause-file : goal.returns-in-Err-load-clause-file
returns-in-Err-load-clause-file g c =
    let same : c.opened.new.self.opening ≡ c.counted-in-Err-load.new.self.opening = search rules in
    let none : c.counted-in-Err-load.new.self.stored ≡ None = search rules in
    let is_open = subst (λ o. IsOpenFor g.O.Opening.opens g.O.Opening.faults c.args.self.now.path c.args.self.now.stored c.args.self.now.opening o c.in-Ok.stored) same c.in-Ok.ensures.open in
    let it = subst (λ w. LoadsIn g.O.First.Keeper g.O.Again.Keeper c.in-Ok.stored c.load.new.self (Err w)) (sym c.counted-in-Err-load.ensures.same) c.in-Err-load.ensures.loads in
    (search rules, search rules, inl (c.in-Ok.stored, c.load.new.self, is_open, it, none))
