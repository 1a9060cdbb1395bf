use Rattle.std.proofs.Common.{◌≡◌, sym, ap, ◌∙◌}
use Rattle.stored_records.specs.Sequels.{are_same_holdings, holdings_told}
use Rattle.stored_records.proofs.Alike.{same_itself, same_picks}
use Rattle.stored_records.proofs.sequels.are_same_holdings.Goals as goal

pub returns-then-eq : goal.returns-then-eq
returns-then-eq c =
    let same : c.args.picks.now ≡ c.args.others.now = same_picks _ _ c.eq.result c.eq.ensures c.if-eq.true in
    sym (ap (λ others. are_same_holdings (holdings_told c.args.picks.now) (holdings_told others)) (sym same) ∙ same_itself (holdings_told c.args.picks.now))
