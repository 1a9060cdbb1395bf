use Rattle.std.proofs.Common.{◌≡◌, ◌&&◌, ◌-◌, ◌<◌, ◌≤◌, Some, true, not, arith, rules, ap, ap₂, sym, subst}
use Rattle.std.specs.Option.{is_some}
use Rattle.fpl_base.specs.Keeping.{map_of}
use Rattle.fpl_base.specs.declared.kinds.Chip.TheVariants.{None as NoChip}
use Rattle.rule_book.specs.HistoryTransfers.{chip_among, half_of, is_same_chip}
use Rattle.stored_records.specs.EntryTold.{chip_told}
use Rattle.stored_records.specs.Stored.{split_told}
use Rattle.squad_rules.proofs.ChipsPlayed.{among_found}
use Rattle.store_validation.proofs.team_rules.is_played_again.Goals as goal

pub returns-then-is_same_chip-2 : goal.returns-then-is_same_chip-2
returns-then-is_same_chip-2 c =
    let chips = chip_told (map_of c.args.stored.now) c.args.entry in
    let chip = c.args.chip in
    let from = c.half_of-from.result in
    let low : from ≤ c.loop-w.w = omega arith in
    let high : c.loop-w.w < c.args.gameweek = search rules in
    let same : is_same_chip chip (chips c.loop-w.w) ≡ true = search rules in
    let there : chip_among chips chip from (c.args.gameweek - from) ≡ Some c.loop-w.w = among_found chips chip from c.loop-w.w c.args.gameweek low high c.loop-w.invariant same in
    let e : from ≡ half_of (split_told (map_of c.args.stored.now)) chip c.args.gameweek = search rules in
    let some : is_some (chip_among chips chip (half_of (split_told (map_of c.args.stored.now)) chip c.args.gameweek) (c.args.gameweek - half_of (split_told (map_of c.args.stored.now)) chip c.args.gameweek)) ≡ true
    = subst (λ f. is_some (chip_among chips chip f (c.args.gameweek - f)) ≡ true) e (ap is_some there) in
    let one : not (is_same_chip chip NoChip) ≡ true = search rules in
    sym (ap₂ (λ a b. a && b) one some)
