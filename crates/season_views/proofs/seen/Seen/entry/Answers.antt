use Rattle.std.proofs.Common.{◌≤◌, rules, subst, sym}
use Rattle.rule_book.specs.PlayerFigures.{position_in}
use Rattle.rule_book.specs.Players.{ArePlayers}
use Rattle.season_entries.specs.Entries.{AreEntries}
use Rattle.season_views.specs.Seen.{SeenSeason}
use Rattle.season_views.proofs.Histories.{entry_seen}
use Rattle.season_views.proofs.seen.Seen.entry.Goals as goal

pub returns : goal.returns
returns g c = λ entries are row there.
    let season = c.self.inside.season.now in
    let managers = c.self.inside.managers.now in
    let one : 1 ≤ c.args.entry = search rules in
    let players : ArePlayers season.players = subst ArePlayers c.players.ensures c.len-count.ensures.lawful in
    let stand : AreEntries season.players managers.managers entries = subst (λ (s : SeenSeason). AreEntries s.facts.players s.managers.managers entries) (sym c.self.view_is) are in
    entry_seen season managers entries c.args.entry row c.in-Some.name.now c.first.result players one c.in-Some.ensures (c.first.ensures.history (position_in season.players)) stand there
