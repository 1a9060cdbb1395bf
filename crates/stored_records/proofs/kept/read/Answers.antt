use Rattle.std.proofs.Common.{◌∙◌, sym, subst}
use Rattle.season_records.specs.ItemReading.{item_of}
use Rattle.season_records.specs.Laws.{IsBytes}
use Rattle.stored_records.proofs.KeptLemmas.{read_some}
use Rattle.stored_records.proofs.kept.read.Goals as goal

pub returns-in-Some : goal.returns-in-Some
returns-in-Some c =
    read_some c.args.key c.args.body c.in-Some.item c.told_of.result (subst IsBytes c.as_slice.ensures c.in_ok-item.ensures.bytes)
    ((λ i. item_of c.args.key (sym c.as_slice.ensures i)) ∙ (sym c.in_ok-item.ensures.item ∙ c.in-Some.is)) c.told_of.ensures
