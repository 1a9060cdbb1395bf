use Rattle.std.proofs.Common.{◌∙◌, ap, sym, Some, None}
use Rattle.fpl_base.specs.Keeping.{applied_one}
use Rattle.record_keepers.specs.Records.{bodies_in, placed}
use Rattle.record_keepers.proofs.TreeLemmas.{made_is, stood_is}
use Rattle.record_keepers.proofs.tree.change.Goals as goal

pub returns-in_ok-copy_of_body-in-Put-clause-stored :
    goal.returns-in_ok-copy_of_body-in-Put-clause-stored
returns-in_ok-copy_of_body-in-Put-clause-stored c =
    let old = c.args.tree.now.entries in
    let copy = c.in_ok-copy_of_body-in-Put in
    made_is c.exchange.result c.in-Put.key (Some copy.field-0) old c.exchange.new.tree.entries (applied_one (bodies_in old) c.args.op.now)
    (ap (λ b. placed (bodies_in old) (c.in-Put.key, Some b)) copy.ensures ∙ ap (applied_one (bodies_in old)) (sym c.in-Put.is))
    c.exchange.ensures.stored

pub returns-in_ok-copy_of_body-in-Put-clause-was :
    goal.returns-in_ok-copy_of_body-in-Put-clause-was
returns-in_ok-copy_of_body-in-Put-clause-was c =
    stood_is c.exchange.result c.in-Put.key (Some c.in_ok-copy_of_body-in-Put.field-0) c.args.tree.now.entries c.exchange.new.tree.entries c.exchange.ensures.stored

pub returns-in-Delete-clause-stored : goal.returns-in-Delete-clause-stored
returns-in-Delete-clause-stored c =
    let old = c.args.tree.now.entries in
    made_is c.exchange-in-Delete.result c.in-Delete.key None old c.exchange-in-Delete.new.tree.entries (applied_one (bodies_in old) c.args.op.now)
    (ap (applied_one (bodies_in old)) (sym c.in-Delete.is))
    c.exchange-in-Delete.ensures.stored

pub returns-in-Delete-clause-was : goal.returns-in-Delete-clause-was
returns-in-Delete-clause-was c =
    stood_is c.exchange-in-Delete.result c.in-Delete.key None c.args.tree.now.entries c.exchange-in-Delete.new.tree.entries c.exchange-in-Delete.ensures.stored
