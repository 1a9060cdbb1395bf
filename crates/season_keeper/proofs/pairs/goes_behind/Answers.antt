use Rattle.std.proofs.Common.{rules, ◌≡◌, ◌∙◌, ◌-◌, sym, length, get_or}
use Rattle.season_keeper.proofs.Pairing.{all_before}
use Rattle.season_keeper.proofs.pairs.goes_behind.Goals as goal

pub returns-in-Some : goal.returns-in-Some
returns-in-Some c before =
    let last : c.in-Some.last.now ≡ get_or c.args.pairs.now (length c.args.pairs.now - 1) c.in-Some.last.now = search rules in
    all_before c.args.pairs.now c.args.key c.in-Some.last.now c.requires.rise last (sym c.precedes.ensures ∙ before)
