use Rattle.fpl_requests.specs.declared.field.FieldName.TheVariants as field
use Rattle.fpl_requests.specs.Members.{each, entry}
use Rattle.json_tree.specs.Trees.{seen}
use Rattle.fpl_requests.proofs.EntryLemmas.{entries_high}
use Rattle.fpl_requests.proofs.lists.coins.Goals as goal

pub returns-then-is_long-clause-sides : goal.returns-then-is_long-clause-sides
returns-then-is_long-clause-sides c =
    let ds = seen c.in_ok-values.values in
    entries_high field.Coins 0 1 ds c.in_ok-list.list (c.in_ok-list.ensures (each (entry field.Coins 0 1) ds) c.each_coin.ensures)
