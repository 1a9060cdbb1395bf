use Rattle.std.proofs.Common.{◌≡◌, ◌∙◌, Some, rules, sym}
use Rattle.std.specs.Option.{option_map}
use Rattle.fpl_base.specs.Keeping.{map_of}
use Rattle.season_records.specs.declared.item.Item.TheVariants as item
use Rattle.season_restoring.proofs.OneLeague.{told_own}
use Rattle.season_restoring.proofs.leagues.made_of.Goals as goal

pub league_of-requires-clause-told : goal.league_of-requires-clause-told
league_of-requires-clause-told c =
    let found = c.in-Some-League in
    let at : option_map (λ i. i.now) c.args.item ≡ Some (item.League found.field-0-0 found.kind found.start found.creator found.order found.code found.name) = search rules in
    told_own (map_of c.args.stored.now) c.args.number found.field-0-0 found.kind found.start found.creator found.order found.code found.name (sym c.requires.told ∙ at)
