use Rattle.std.proofs.Common.{◌≤◌, [], rules, sym, ap, ◌∙◌}
use Rattle.std.specs.Option.{option_copied, option_map_or}
use Rattle.league_windows.proofs.EntryNames.{name_is}
use Rattle.league_windows.proofs.names.name_text.Goals as goal

pub returns-in-Some : goal.returns-in-Some
returns-in-Some g c entries are =
    let seen = c.args.seen.now in
    let one : 1 ≤ c.args.entry = search rules in
    c.text_of.ensures
    ∙ ap (λ o. option_map_or (λ name. name) (option_copied o) []) (sym c.in-Some.is)
    ∙ name_is seen.facts.players seen.managers entries c.args.entry (option_copied c.name.result) are one c.name.ensures

pub returns-in-None : goal.returns-in-None
returns-in-None g c entries are =
    let seen = c.args.seen.now in
    let one : 1 ≤ c.args.entry = search rules in
    ap (λ o. option_map_or (λ name. name) (option_copied o) []) (sym c.in-None.is)
    ∙ name_is seen.facts.players seen.managers entries c.args.entry (option_copied c.name.result) are one c.name.ensures
